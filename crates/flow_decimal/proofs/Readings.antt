-- What the steps of reading a number come to.
use Rattle.std.proofs.Common.{◌≡◌, ℕ, suc, ◌+◌, ◌^◌, ◌<◌, ◌≤◌, Bool, true, false, List, [], ◌∷◌, ◌++◌, length, take, drop, Some, None, refl, sym, ap, ◌∙◌, arith, nat_lt, cond}
use Rattle.std.specs.Prelude.{◌&&◌, ◌||◌, not, Result, Ok, Err, if◌then◌else◌}
use Rattle.std.specs.List.{position, position_or_len, list_any}
use Rattle.std.specs.Str.Parse.{digits_value, starts_with_minus, without_leading_sign}
use Rattle.std.proofs.lemmas.Bool.Decides.{nat_tests}
use Rattle.std.proofs.lemmas.List.{take_all, append-nil}
use Rattle.std.proofs.Math.ListN.{drop_of_length-le}
use Rattle.flow_decimal.specs.declared.decimal.Decimal.{Decimal}
use Rattle.flow_decimal.specs.declared.decimal.NumberStop.{NumberStop}
use Rattle.flow_decimal.specs.declared.decimal.NumberStop.TheVariants.{NoNumber, TooLarge}
use Rattle.flow_decimal.specs.declared.reading.Unsigned.{Unsigned}
use Rattle.flow_decimal.specs.Numbers.{is_point, is_numeral, is_unsigned, front, back, size_in, with_sign, fits, reading}
use Rattle.flow_decimal.specs.Unsigned.{unsigned_reading}
use Rattle.flow_decimal.proofs.Fitting.{below-test, above-test, test-above}

-- The point

step : (a b : ℕ) → nat_lt a b ≡ nat_lt (1 + a) (suc b)
step a b = grind (arith, nat_tests)

-- a text has a point where the first one stands within it
any-at : (text : List ℕ) → list_any is_point text ≡ nat_lt (position_or_len is_point text) (length text)
any-at [] = refl
any-at (c ∷ cs) = by (is_point c) (any-at cs) where
  by : (b : Bool) → list_any is_point cs ≡ nat_lt (position_or_len is_point cs) (length cs) → (b || list_any is_point cs) ≡ nat_lt (cond (not b) (1 + position_or_len is_point cs) 0) (length (c ∷ cs))
  by true later = sym (below-test 0 (length (c ∷ cs)) (omega arith))
  by false later = later ∙ step (position_or_len is_point cs) (length cs)

found-by : (b : Bool) (p point : ℕ) → cond b (Some p) None ≡ Some point → (b ≡ true) × (p ≡ point)
found-by true p point e = (refl, cc)
found-by false p point e = cc

none-by : (b : Bool) (p : ℕ) → cond b (Some p) None ≡ None → b ≡ false
none-by true p e = cc
none-by false p e = refl

point-found : (text : List ℕ) (point : ℕ) → position is_point text ≡ Some point → (list_any is_point text ≡ true) × (position_or_len is_point text ≡ point)
point-found text point e =
    let found = found-by (nat_lt (position_or_len is_point text) (length text)) (position_or_len is_point text) point e in
    (any-at text ∙ found.0, found.1)

no-point : (text : List ℕ) → position is_point text ≡ None → list_any is_point text ≡ false
no-point text e = any-at text ∙ none-by (nat_lt (position_or_len is_point text) (length text)) (position_or_len is_point text) e

past-end : (text : List ℕ) → position is_point text ≡ None → length text ≤ position_or_len is_point text
past-end text e = test-above (position_or_len is_point text) (length text) (none-by (nat_lt (position_or_len is_point text) (length text)) (position_or_len is_point text) e)

-- Reading without a sign, by its tests

-- a size of few enough bits, or one of too many
abbrev pub sized : Bool → ℕ → ℕ → Result Unsigned NumberStop
sized true size fraction = Ok (record { size = size; fraction = fraction })
sized false size fraction = Err TooLarge

-- the digits are there, or aren't
abbrev pub tested : Bool → ℕ → ℕ → Result Unsigned NumberStop
tested true size fraction = sized (nat_lt size (2 ^ 128)) size fraction
tested false size fraction = Err NoNumber

sized-if : (b : Bool) (size fraction : ℕ) → (if b then Ok (record { size = size; fraction = fraction }) else Err TooLarge) ≡ sized b size fraction
sized-if true size fraction = refl
sized-if false size fraction = refl

tested-if : (b : Bool) (size fraction : ℕ) → (if b then (if nat_lt size (2 ^ 128) then Ok (record { size = size; fraction = fraction }) else Err TooLarge) else Err NoNumber) ≡ tested b size fraction
tested-if true size fraction = sized-if (nat_lt size (2 ^ 128)) size fraction
tested-if false size fraction = refl

pub by-tests : (text : List ℕ) → unsigned_reading text ≡ tested (is_unsigned text) (size_in text) (length (back text))
by-tests text = tested-if (is_unsigned text) (size_in text) (length (back text))

-- what it comes to for these digits before the point and behind it, if there is one
abbrev pub of_parts : List ℕ → List ℕ → Bool → Result Unsigned NumberStop
of_parts before behind pointed = tested (is_numeral before && (not pointed || is_numeral behind)) (digits_value 10 (before ++ behind)) (length behind)

pub whole-reading : (text : List ℕ) → position is_point text ≡ None → unsigned_reading text ≡ of_parts text [] false
whole-reading text e =
    let all : front text ≡ text = take_all (position_or_len is_point text) text (past-end text e) in
    let rest : back text ≡ [] = drop_of_length-le text (omega (arith, past-end text e)) in
    let none = no-point text e in
    by-tests text ∙ (λ i. of_parts (all i) (rest i) (none i))

pointed-reading : (text : List ℕ) (point : ℕ) → position is_point text ≡ Some point → unsigned_reading text ≡ of_parts (take point text) (drop (point + 1) text) true
pointed-reading text point e =
    let found = point-found text point e in
    by-tests text ∙ (λ i. of_parts (take (found.1 i) text) (drop (found.1 i + 1) text) (found.0 i))

neither : (b : Bool) (size fraction : ℕ) → tested (b && false) size fraction ≡ Err NoNumber
neither true size fraction = refl
neither false size fraction = refl

-- those behind the point aren't
no-back : (before behind : List ℕ) → is_numeral behind ≡ false → of_parts before behind true ≡ Err NoNumber
no-back before behind e =
    ap (λ (b : Bool). tested (is_numeral before && b) (digits_value 10 (before ++ behind)) (length behind)) e
    ∙ neither (is_numeral before) (digits_value 10 (before ++ behind)) (length behind)

whole-tests : (before behind : List ℕ) → is_numeral before ≡ true → of_parts before behind false ≡ sized (nat_lt (digits_value 10 (before ++ behind)) (2 ^ 128)) (digits_value 10 (before ++ behind)) (length behind)
whole-tests before behind e = ap (λ (b : Bool). tested (b && (not false || is_numeral behind)) (digits_value 10 (before ++ behind)) (length behind)) e

sized-small : (n fraction : ℕ) → n < 2 ^ 128 → sized (nat_lt n (2 ^ 128)) n fraction ≡ Ok (record { size = n; fraction = fraction })
sized-small n fraction h = ap (λ (b : Bool). sized b n fraction) (below-test n (2 ^ 128) h)

sized-large : (n fraction : ℕ) → ¬ (n < 2 ^ 128) → sized (nat_lt n (2 ^ 128)) n fraction ≡ Err TooLarge
sized-large n fraction h = ap (λ (b : Bool). sized b n fraction) (above-test n (2 ^ 128) h)

-- a number without a point
pub whole-small : (text : List ℕ) (size : ℕ) → position is_point text ≡ None → is_numeral text ≡ true → digits_value 10 text < 2 ^ 128 → size ≡ digits_value 10 text → Ok (record { size = size; fraction = 0 }) ≡ unsigned_reading text
whole-small text size e n small is =
    let as_one : digits_value 10 (text ++ []) ≡ digits_value 10 text = ap (digits_value 10) (append-nil text) in
    sym (whole-reading text e ∙ whole-tests text [] n ∙ ap (λ (k : ℕ). sized (nat_lt k (2 ^ 128)) k 0) (as_one ∙ sym is) ∙ sized-small size 0 (omega (arith, is)))

pub whole-large : (text : List ℕ) → position is_point text ≡ None → is_numeral text ≡ true → ¬ (digits_value 10 text < 2 ^ 128) → Err TooLarge ≡ unsigned_reading text
whole-large text e n large =
    let as_one : digits_value 10 (text ++ []) ≡ digits_value 10 text = ap (digits_value 10) (append-nil text) in
    sym (whole-reading text e ∙ whole-tests text [] n ∙ ap (λ (k : ℕ). sized (nat_lt k (2 ^ 128)) k 0) as_one ∙ sized-large (digits_value 10 text) 0 large)

-- a number with a point, and no digits behind it
pub pointed-no-back : (text behind : List ℕ) (point : ℕ) → position is_point text ≡ Some point → behind ≡ drop (point + 1) text → is_numeral behind ≡ false → Err NoNumber ≡ unsigned_reading text
pointed-no-back text behind point e b n = sym (pointed-reading text point e ∙ no-back (take point text) (drop (point + 1) text) (ap is_numeral (sym b) ∙ n))

-- With a sign

abbrev pub signed_as : Bool → Bool → ℕ → ℕ → Result Decimal NumberStop
signed_as negative true size fraction = if fits (with_sign negative size) then Ok (record { whole = with_sign negative size; fraction = fraction }) else Err TooLarge
signed_as negative false size fraction = Err NoNumber

signed-if : (b : Bool) (negative : Bool) (size fraction : ℕ)
    → (if b then (if fits (with_sign negative size) then Ok (record { whole = with_sign negative size; fraction = fraction }) else Err TooLarge) else Err NoNumber) ≡ signed_as negative b size fraction
signed-if true negative size fraction = refl
signed-if false negative size fraction = refl

pub by-sign : (text : List ℕ) → reading text ≡ signed_as (starts_with_minus text) (is_unsigned (without_leading_sign text)) (size_in (without_leading_sign text)) (length (back (without_leading_sign text)))
by-sign text = signed-if (is_unsigned (without_leading_sign text)) (starts_with_minus text) (size_in (without_leading_sign text)) (length (back (without_leading_sign text)))
