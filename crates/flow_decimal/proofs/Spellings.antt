-- The spelling of a number is read as that number.
use Rattle.std.proofs.Common.{◌≡◌, ℕ, zero, suc, ◌+◌, ◌-◌, ◌^◌, ◌<◌, Bool, true, false, List, [], ◌∷◌, ◌++◌, length, get_or, take, drop, refl, sym, subst, ap, ◌∙◌, arith, cond, length-append}
use Rattle.std.specs.Prelude.{◌≢◌, ◌==◌, ◌&&◌, ◌||◌, not, replicate, ℤ, pos, negsuc, Ok, Err, if◌then◌else◌}
use Rattle.std.specs.Char.{digit_value}
use Rattle.std.specs.Int.{is_negative}
use Rattle.std.specs.Fmt.{decimal}
use Rattle.std.specs.List.{position_or_len, list_any}
use Rattle.std.specs.Str.Parse.{AllDigits, digits_value, starts_with_minus, without_leading_plus, without_leading_sign}
use Rattle.std.proofs.lemmas.Bool.{false_from_ne_true}
use Rattle.std.proofs.lemmas.Bool.Decides.{nat_tests}
use Rattle.std.proofs.lemmas.Fmt.{decimal_is_IsNumeral_wide}
use Rattle.std.proofs.lemmas.List.{take_all, append-nil, take-append-drop, length-replicate, length-drop}
use Rattle.std.proofs.lemmas.Str.Parse.{digit_from_value, without_leading_plus_none}
use Rattle.std.proofs.Math.ListN.{drop_of_length-le, get_or-append}
use Rattle.std.proofs.Math.Seq.{take-append_seam, drop-append-add, length-take-le}
use Rattle.flow_decimal.specs.declared.decimal.NumberStop.TheVariants.{TooLarge}
use Rattle.flow_decimal.specs.Numbers.{is_point, is_numeral, is_unsigned, front, back, size_in, with_sign, fits, reading}
use Rattle.flow_decimal.specs.Spelling.{digits_of, with_point, spelled}
use Rattle.flow_decimal.specs.Laws.{SpellingReadsBack}
use Rattle.flow_decimal.proofs.Fitting.{test-below, above-test}
use Rattle.flow_decimal.proofs.Numerals.{numeral-from, first-digit}
use Rattle.flow_decimal.proofs.Readings.{by-sign, signed_as}

-- Digits with zeros before them

zeros-digits : (k : ℕ) (ds : List ℕ) → AllDigits 10 ds → AllDigits 10 (replicate k 48 ++ ds)
zeros-digits zero ds h = h
zeros-digits (suc k) ds h = (omega arith, zeros-digits k ds h)

zeros-value : (k : ℕ) (ds : List ℕ) → digits_value 10 (replicate k 48 ++ ds) ≡ digits_value 10 ds
zeros-value zero ds = refl
zeros-value (suc k) ds = zeros-value k ds

wide : (n : ℕ) → n < 2 ^ 128 → n < 10 ^ 64
wide n h = omega arith

-- the digits of a number, before a fraction
pub record AreDigitsOf (size fraction : ℕ) (ds : List ℕ) : Type 0 where
  digits : AllDigits 10 ds
  long : fraction < length ds
  worth : digits_value 10 ds ≡ size

pub are-digits : (size fraction : ℕ) → size < 2 ^ 128 → AreDigitsOf size fraction (digits_of size fraction)
are-digits size fraction small =
    let numeral = decimal_is_IsNumeral_wide size (wide size small) in
    let zeros = fraction + 1 - length (decimal size) in
    record {
      digits = zeros-digits zeros (decimal size) numeral.0.1;
      long = omega (arith, length-append (replicate zeros 48) (decimal size), length-replicate {A = ℕ} zeros 48);
      worth = zeros-value zeros (decimal size) ∙ numeral.1;
    }

-- Parts of digits

digits-take : (k : ℕ) (ds : List ℕ) → AllDigits 10 ds → AllDigits 10 (take k ds)
digits-take zero ds h = tt
digits-take (suc k) [] h = tt
digits-take (suc k) (d ∷ ds) h = (h.0, digits-take k ds h.1)

digits-drop : (k : ℕ) (ds : List ℕ) → AllDigits 10 ds → AllDigits 10 (drop k ds)
digits-drop zero ds h = h
digits-drop (suc k) [] h = tt
digits-drop (suc k) (d ∷ ds) h = digits-drop k ds h.1

not-equal : (a b : ℕ) → a ≢ b → (a == b) ≡ false
not-equal a b n = false_from_ne_true (a == b) (λ e. n (grind (arith, nat_tests)))

-- no digit is a point
no-point : (d : ℕ) → digit_value d < 10 → is_point d ≡ false
no-point d h = let range = digit_from_value d h in not-equal d 46 (λ e. omega (arith, range.0))

-- Where the point is

not-over : (b : Bool) (n : ℕ) → b ≡ false → cond (not b) (1 + n) 0 ≡ 1 + n
not-over b n e = ap (λ (c : Bool). cond (not c) (1 + n) 0) e

nowhere : (ds : List ℕ) → AllDigits 10 ds → position_or_len is_point ds ≡ length ds
nowhere [] h = refl
nowhere (d ∷ ds) h = not-over (is_point d) (position_or_len is_point ds) (no-point d h.0) ∙ omega (arith, nowhere ds h.1)

behind-digits : (xs ys : List ℕ) → AllDigits 10 xs → position_or_len is_point (xs ++ 46 ∷ ys) ≡ length xs
behind-digits [] ys h = refl
behind-digits (d ∷ ds) ys h = not-over (is_point d) (position_or_len is_point (ds ++ 46 ∷ ys)) (no-point d h.0) ∙ omega (arith, behind-digits ds ys h.1)

none-there : (ds : List ℕ) → AllDigits 10 ds → list_any is_point ds ≡ false
none-there [] h = refl
none-there (d ∷ ds) h = ap (λ (b : Bool). b || list_any is_point ds) (no-point d h.0) ∙ none-there ds h.1

-- A text whose reading without a sign is known

pub record IsReadAs (size fraction : ℕ) (text : List ℕ) : Type 0 where
  no_minus : get_or text 0 0 ≢ 45
  no_plus : get_or text 0 0 ≢ 43
  unsigned : is_unsigned text ≡ true
  size_is : size_in text ≡ size
  fraction_is : length (back text) ≡ fraction

both-hold : (a b c : Bool) → a ≡ true → b ≡ true → (a && (not c || b)) ≡ true
both-hold a b true p q = (λ i. p i && q i)
both-hold a b false p q = ap (λ (x : Bool). x && true) p

no-need : (a b c : Bool) → a ≡ true → c ≡ false → (a && (not c || b)) ≡ true
no-need a b c p q = (λ i. p i && (not (q i) || b))

-- digits without a point
whole-read : (size : ℕ) (ds : List ℕ) → AreDigitsOf size 0 ds → IsReadAs size 0 ds
whole-read size ds is =
    let first = first-digit ds is.digits is.long in
    let all : front ds ≡ ds = take_all (position_or_len is_point ds) ds (omega (arith, nowhere ds is.digits)) in
    let rest : back ds ≡ [] = drop_of_length-le ds (omega (arith, nowhere ds is.digits)) in
    record {
      no_minus = λ e. omega (arith, first.0);
      no_plus = λ e. omega (arith, first.0);
      unsigned = no-need (is_numeral (front ds)) (is_numeral (back ds)) (list_any is_point ds) (ap is_numeral all ∙ numeral-from ds (is.long, is.digits)) (none-there ds is.digits);
      size_is = (λ i. digits_value 10 (all i ++ rest i)) ∙ ap (digits_value 10) (append-nil ds) ∙ is.worth;
      fraction_is = ap length rest;
    }

-- digits with a point before the last ones
pointed-read : (size fraction : ℕ) (ds : List ℕ) → 0 < fraction → AreDigitsOf size fraction ds → IsReadAs size fraction (take (length ds - fraction) ds ++ 46 ∷ drop (length ds - fraction) ds)
pointed-read size fraction ds some is =
    let k = length ds - fraction in
    let xs = take k ds in
    let ys = drop k ds in
    let hx = digits-take k ds is.digits in
    let hy = digits-drop k ds is.digits in
    let long : length xs ≡ k = length-take-le k ds (omega arith) in
    let short : length ys ≡ fraction = length-drop k ds ∙ omega (arith, is.long) in
    let begun : 0 < length xs = omega (arith, is.long, long) in
    let range = first-digit xs hx begun in
    let first : get_or (xs ++ 46 ∷ ys) 0 0 ≡ get_or xs 0 0 = get_or-append xs (46 ∷ ys) 0 0 begun in
    let at = behind-digits xs ys hx in
    let before : front (xs ++ 46 ∷ ys) ≡ xs = ap (λ (n : ℕ). take n (xs ++ 46 ∷ ys)) at ∙ take-append_seam xs (46 ∷ ys) in
    let behind : back (xs ++ 46 ∷ ys) ≡ ys = ap (λ (n : ℕ). drop (n + 1) (xs ++ 46 ∷ ys)) at ∙ drop-append-add xs (46 ∷ ys) 1 in
    record {
      no_minus = λ e. omega (arith, range.0, first);
      no_plus = λ e. omega (arith, range.0, first);
      unsigned = both-hold (is_numeral (front (xs ++ 46 ∷ ys))) (is_numeral (back (xs ++ 46 ∷ ys))) (list_any is_point (xs ++ 46 ∷ ys))
          (ap is_numeral before ∙ numeral-from xs (begun, hx)) (ap is_numeral behind ∙ numeral-from ys (omega (arith, short), hy));
      size_is = (λ i. digits_value 10 (before i ++ behind i)) ∙ ap (digits_value 10) (take-append-drop k ds) ∙ is.worth;
      fraction_is = ap length behind ∙ short;
    }

-- the spelling of a number that isn't below zero
unsigned-read : (size fraction : ℕ) (ds : List ℕ) → AreDigitsOf size fraction ds → IsReadAs size fraction (with_point ds fraction)
unsigned-read size fraction ds is = by (fraction == 0) refl where
  none : fraction ≡ 0 → AreDigitsOf size 0 ds
  none e = record { digits = is.digits; long = omega (arith, is.long); worth = is.worth }

  by : (b : Bool) → (fraction == 0) ≡ b → IsReadAs size fraction (if b then ds else take (length ds - fraction) ds ++ 46 ∷ drop (length ds - fraction) ds)
  by true e =
      let nought : fraction ≡ 0 = grind (arith, nat_tests) in
      subst (λ (n : ℕ). IsReadAs size n ds) (sym nought) (whole-read size ds (none nought))
  by false e =
      let some : 0 < fraction = grind (arith, nat_tests) in pointed-read size fraction ds some is

-- With its sign

abbrev signed_text : Bool → List ℕ → List ℕ
signed_text b text = (if b then 45 ∷ [] else []) ++ text

-- the reading of a text that is so read without a sign and has none, or a minus
plain-reads : (size fraction : ℕ) (text : List ℕ) → IsReadAs size fraction text → reading text ≡ signed_as false true size fraction
plain-reads size fraction text is =
    let none : starts_with_minus text ≡ false = not-equal (get_or text 0 0) 45 is.no_minus in
    let same : without_leading_sign text ≡ text = ap (λ (b : Bool). cond b (drop 1 text) (without_leading_plus text)) none ∙ without_leading_plus_none text is.no_plus in
    by-sign text
    ∙ (λ i. signed_as (none i) (is_unsigned (same i)) (size_in (same i)) (length (back (same i))))
    ∙ (λ i. signed_as false (is.unsigned i) (is.size_is i) (is.fraction_is i))

minus-reads : (size fraction : ℕ) (text : List ℕ) → IsReadAs size fraction text → reading (45 ∷ text) ≡ signed_as true true size fraction
minus-reads size fraction text is = by-sign (45 ∷ text) ∙ (λ i. signed_as true (is.unsigned i) (is.size_is i) (is.fraction_is i))

fitting : (negative : Bool) (size fraction : ℕ) → fits (with_sign negative size) ≡ true → signed_as negative true size fraction ≡ Ok (record { whole = with_sign negative size; fraction = fraction })
fitting negative size fraction h = ap (λ (b : Bool). if b then Ok (record { whole = with_sign negative size; fraction = fraction }) else Err TooLarge) h

reads : (whole : ℤ) (fraction : ℕ) → fits whole ≡ true → reading (spelled (record { whole = whole; fraction = fraction })) ≡ Ok (record { whole = whole; fraction = fraction })
reads (pos n) fraction h =
    let small : n < 2 ^ 128 = omega (arith, test-below n (2 ^ 127) h) in
    let none : is_negative (pos n) ≡ false = above-test n 0 (λ k. omega arith) in
    let text = with_point (digits_of n fraction) fraction in
    ap (λ (b : Bool). reading (signed_text b text)) none
    ∙ plain-reads n fraction text (unsigned-read n fraction (digits_of n fraction) (are-digits n fraction small))
    ∙ fitting false n fraction h
reads (negsuc n) fraction h =
    let small : suc n < 2 ^ 128 = omega (arith, test-below n (2 ^ 127) h) in
    let text = with_point (digits_of (suc n) fraction) fraction in
    minus-reads (suc n) fraction text (unsigned-read (suc n) fraction (digits_of (suc n) fraction) (are-digits (suc n) fraction small))
    ∙ fitting true (suc n) fraction h

-- Whoever reads the spelling of a number has that number.
pub spelling-reads-back : SpellingReadsBack
spelling-reads-back number h = reads number.whole number.fraction h
