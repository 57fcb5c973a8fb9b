-- The texts that are numbers, and what they are worth: a sign or none, digits, and a point with digits behind it or none. (The form is this
-- project's own: a digit stands on both sides of a point, so `.5` and `5.` are no numbers.)
use Rattle.std.specs.Prelude.{ℕ, ◌==◌, ◌^◌, Bool, true, false, not, ◌&&◌, ◌||◌, List, ◌++◌, length, nat_lt, ℤ, pos, negsuc, neg_ℤ, Result, Ok, Err, if◌then◌else◌}
use Rattle.std.specs.Char.{is_ascii_digit}
use Rattle.std.specs.List.{before_first, after_first, list_any, list_all}
use Rattle.std.specs.Str.Parse.{digits_value, starts_with_minus, without_leading_sign}
use Rattle.flow_decimal.specs.declared.decimal.Decimal.{Decimal}
use Rattle.flow_decimal.specs.declared.decimal.NumberStop.{NumberStop}
use Rattle.flow_decimal.specs.declared.decimal.NumberStop.TheVariants.{NoNumber, TooLarge}

-- A byte that is a point.
abbrev pub is_point : ℕ → Bool
is_point byte = byte == 46

-- What stands before the first point of a text: all of it, where there is none.
abbrev pub front : List ℕ → List ℕ
front text = before_first is_point text

-- What stands behind that point: nothing, where there is none.
abbrev pub back : List ℕ → List ℕ
back text = after_first is_point text

-- Digits alone, at least one.
abbrev pub is_numeral : List ℕ → Bool
is_numeral text = nat_lt 0 (length text) && list_all is_ascii_digit text

-- Digits stand before the point, and behind it where there is one.
abbrev pub is_unsigned : List ℕ → Bool
is_unsigned text = is_numeral (front text) && (not (list_any is_point text) || is_numeral (back text))

-- A text that is a number.
abbrev pub is_number : List ℕ → Bool
is_number text = is_unsigned (without_leading_sign text)

-- The digits on both sides of the point, as one whole number.
abbrev pub size_in : List ℕ → ℕ
size_in text = digits_value 10 (front text ++ back text)

-- The number of that size, below zero or not.
abbrev pub with_sign : Bool → ℕ → ℤ
with_sign true size = neg_ℤ (pos size)
with_sign false size = pos size

-- The number that a text is: its sign and its digits as a whole number, so many of which stand behind the point.
abbrev pub number_in : List ℕ → Decimal
number_in text = record { whole = with_sign (starts_with_minus text) (size_in (without_leading_sign text)); fraction = length (back (without_leading_sign text)) }

-- A whole number has 128 bits, its sign among them.
abbrev pub fits : ℤ → Bool
fits (pos n) = nat_lt n (2 ^ 127)
fits (negsuc n) = nat_lt n (2 ^ 127)

-- What the reading of a text comes to.
abbrev pub reading : List ℕ → Result Decimal NumberStop
reading text =
    if is_number text
    then (if fits (number_in text).whole then Ok (number_in text) else Err TooLarge)
    else Err NoNumber
