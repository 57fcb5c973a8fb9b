-- How a decimal number is spelled: by its digits, with a point before those of its fraction.
use Rattle.std.specs.Prelude.{ℕ, ◌+◌, ◌-◌, ◌==◌, List, [], ◌∷◌, ◌++◌, length, take, drop, replicate, unsigned_abs, if◌then◌else◌}
use Rattle.std.specs.Int.{is_negative}
use Rattle.std.specs.Fmt.{decimal}
use Rattle.flow_decimal.specs.declared.decimal.Decimal.{Decimal}

-- The digits of a whole number, and before them as many zeros as it takes that one stands before so many others.
abbrev pub digits_of : ℕ → ℕ → List ℕ
digits_of size fraction = replicate (fraction + 1 - length (decimal size)) 48 ++ decimal size

-- The digits with a point before the last ones, which are so many. Where these are none, there is no point.
abbrev pub with_point : List ℕ → ℕ → List ℕ
with_point digits fraction =
    if fraction == 0
    then digits
    else take (length digits - fraction) digits ++ 46 ∷ drop (length digits - fraction) digits

-- The text of a number: a minus where it is below zero, its digits and its point.
abbrev pub spelled : Decimal → List ℕ
spelled number =
    (if is_negative number.whole then 45 ∷ [] else [])
    ++ with_point (digits_of (unsigned_abs number.whole) number.fraction) number.fraction
