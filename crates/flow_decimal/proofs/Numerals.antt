-- Numerals: what the test tells of them, and two that stand one behind the other.
use Rattle.std.proofs.Common.{◌≡◌, ℕ, ◌+◌, ◌*◌, ◌^◌, ◌<◌, ◌≤◌, Bool, true, List, [], ◌∷◌, ◌++◌, length, get_or, refl, sym, subst, ap, ◌∙◌, arith, nat_lt}
use Rattle.std.specs.Prelude.{◌≢◌, ◌&&◌, Option}
use Rattle.std.specs.Int.{IsInRange}
use Rattle.std.specs.Option.{SomeIff}
use Rattle.std.specs.Fmt.{decimal}
use Rattle.std.specs.Char.{digit_value, is_ascii_digit}
use Rattle.std.specs.List.{list_all}
use Rattle.std.specs.Str.{all_ascii_digits, IsUtf8}
use Rattle.std.specs.Str.Parse.{AllDigits, IsNumeral, digits_value, digits_value_after, without_leading_plus}
use Rattle.std.proofs.Math.Nat.{pow-suc, le-mul_of_pos_right}
use Rattle.std.proofs.lemmas.Bool.{and_from, and_parts}
use Rattle.std.proofs.lemmas.Fmt.{IsAscii-from_digits, decimal_is_IsNumeral_wide}
use Rattle.std.proofs.lemmas.Str.{IsUtf8-from_ascii}
use Rattle.std.proofs.lemmas.Str.Parse.{IsNumeralModel, tells_all_ascii_digits, numerals_by_value, digit_from_value, without_leading_plus_none}
use Rattle.flow_decimal.specs.Numbers.{is_numeral}
use Rattle.flow_decimal.specs.Order.{ten_pos}
use Rattle.flow_decimal.proofs.Fitting.{below-test, test-below}

-- digits, by std's words
same-digits : (ds : List ℕ) → list_all is_ascii_digit ds ≡ all_ascii_digits ds
same-digits [] = refl
same-digits (c ∷ cs) = ap (λ (b : Bool). is_ascii_digit c && b) (same-digits cs)

-- texts of digits, for std's lemmas on what is parsed
pub own : IsNumeralModel (λ ds. all_ascii_digits ds ≡ true) (digits_value 10)
own = numerals_by_value (λ ds. all_ascii_digits ds ≡ true) tells_all_ascii_digits

pub numeral-some : (ds : List ℕ) → is_numeral ds ≡ true → 0 < length ds
numeral-some ds e = test-below 0 (length ds) (and_parts (nat_lt 0 (length ds)) (list_all is_ascii_digit ds) e).0

pub numeral-ascii : (ds : List ℕ) → is_numeral ds ≡ true → all_ascii_digits ds ≡ true
numeral-ascii ds e = sym (same-digits ds) ∙ (and_parts (nat_lt 0 (length ds)) (list_all is_ascii_digit ds) e).1

pub numeral-digits : (ds : List ℕ) → is_numeral ds ≡ true → AllDigits 10 ds
numeral-digits ds e = own.to ds (numeral-ascii ds e)

pub numeral-utf8 : (ds : List ℕ) → is_numeral ds ≡ true → IsUtf8 ds
numeral-utf8 ds e = IsUtf8-from_ascii ds (IsAscii-from_digits ds (numeral-digits ds e))

pub numeral-from : (ds : List ℕ) → IsNumeral 10 ds → is_numeral ds ≡ true
numeral-from ds h = and_from (nat_lt 0 (length ds)) (list_all is_ascii_digit ds) (below-test 0 (length ds) h.0) (same-digits ds ∙ own.from ds h.1)

-- the number of two that stand one behind the other

-- What is read behind some digits moves them to the left by its length, whatever stood before.
moved : (before : ℕ) (xs ys : List ℕ) → digits_value_after 10 before (xs ++ ys) ≡ digits_value_after 10 before xs * 10 ^ length ys + digits_value 10 ys
moved before (x ∷ xs) ys = moved (before * 10 + digit_value x) xs ys
moved before [] [] = omega arith
moved before [] (y ∷ ys) =
    let one : ℕ = 0 * 10 + digit_value y in
    let places = ap (λ (power : ℕ). before * power) (pow-suc 10 (length ys)) in
    omega (arith, places, moved (before * 10 + digit_value y) [] ys, moved one [] ys)

pub two-parts : (xs ys : List ℕ) → digits_value 10 (xs ++ ys) ≡ digits_value 10 xs * 10 ^ length ys + digits_value 10 ys
two-parts = moved 0

-- it is no less than each of them
pub front-below : (xs ys : List ℕ) → digits_value 10 xs ≤ digits_value 10 (xs ++ ys)
front-below xs ys =
    let more : digits_value 10 xs ≤ digits_value 10 xs * 10 ^ length ys = le-mul_of_pos_right (digits_value 10 xs) (ten_pos (length ys)) in
    omega (arith, two-parts xs ys)

pub back-below : (xs ys : List ℕ) → digits_value 10 ys ≤ digits_value 10 (xs ++ ys)
back-below xs ys = omega (arith, two-parts xs ys)

pub scaled-below : (xs ys : List ℕ) → digits_value 10 xs * 10 ^ length ys ≤ digits_value 10 (xs ++ ys)
scaled-below xs ys = omega (arith, two-parts xs ys)

-- what is said of a number, said of one that equals it
pub iff-along : (r : Option ℕ) (x y : ℕ) → x ≡ y → SomeIff r (x < 2 ^ 128) x → SomeIff r (y < 2 ^ 128) y
iff-along r x y e h = subst (λ (z : ℕ). SomeIff r (z < 2 ^ 128) z) e h

pub front-large : (xs ys : List ℕ) → ¬ (digits_value 10 xs < 2 ^ 128) → ¬ (digits_value 10 (xs ++ ys) < 2 ^ 128)
front-large xs ys large = λ small. large (omega (arith, front-below xs ys))

-- A numeral that isn't parsed has too many bits

pub first-digit : (ds : List ℕ) → AllDigits 10 ds → 0 < length ds → IsInRange 48 57 (get_or ds 0 0)
first-digit [] h some = absurd (omega arith)
first-digit (d ∷ ds) h some = digit_from_value d h.0

pub not-parsed : (ds text : List ℕ) → is_numeral ds ≡ true → text ≡ ds → ¬ (IsNumeral 10 (without_leading_plus text) × (digits_value 10 (without_leading_plus text) < 2 ^ 128)) → ¬ (digits_value 10 ds < 2 ^ 128)
not-parsed ds text is e refused = λ small.
    let range = first-digit ds (numeral-digits ds is) (numeral-some ds is) in
    let none : get_or ds 0 0 ≢ 43 = λ k. omega (arith, range.0) in
    let plain : without_leading_plus text ≡ ds = ap without_leading_plus e ∙ without_leading_plus_none ds none in
    refused (subst (λ (t : List ℕ). IsNumeral 10 t × (digits_value 10 t < 2 ^ 128)) (sym plain) ((numeral-some ds is, numeral-digits ds is), small))

-- A number is spelled by one digit at least

pub decimal_some : (n : ℕ) → n < 2 ^ 128 → 0 < length (decimal n)
decimal_some n small = let wide : n < 10 ^ 64 = omega arith in (decimal_is_IsNumeral_wide n wide).0.0
