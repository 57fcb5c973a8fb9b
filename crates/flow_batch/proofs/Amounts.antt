-- The amounts that `decimal` reads.
use Rattle.std.proofs.Common.{◌≡◌, ℕ, ◌≤◌, Bool, true, false, ◌&&◌, nat_le, List, Option, Some, None, refl, ap, ◌∙◌, subst, arith, if◌then◌else◌}
use Rattle.std.specs.Fmt.{decimal}
use Rattle.std.specs.Option.{SomeIff}
use Rattle.std.specs.Str.{bytes_eq}
use Rattle.std.specs.Str.Parse.{AllDigits, digits_value}
use Rattle.std.proofs.lemmas.Bool.Decides.{nat_tests}
use Rattle.std.proofs.lemmas.Fmt.{decimal-digits_value}
use Rattle.std.proofs.lemmas.Str.Parse.{IsNumeralModel}
use Rattle.flow_text.specs.Text.{IsPlain, number_of}
use Rattle.flow_text.proofs.Decimals.{decimal_plain}
use Rattle.flow_batch.specs.declared.TheConstants.{AMOUNT_LIMIT}
use Rattle.flow_batch.specs.Records.{amount_in}
use Rattle.flow_batch.proofs.Keys.{same_bytes, equal-bytes}

std_digits : IsNumeralModel (AllDigits 10) (digits_value 10)
std_digits = record { to = λ ds h. h; from = λ ds h. h; same = λ ds h. refl }

-- the digits of a number are plain, and no other bytes are those of their number
plain-is : (bytes : List ℕ) → IsPlain bytes → number_of bytes ≤ AMOUNT_LIMIT → decimal (number_of bytes) ≡ bytes
plain-is bytes plain most = decimal-digits_value std_digits bytes plain.0.1 plain.0.0 plain.1 (omega arith)

is-plain : (bytes : List ℕ) → decimal (number_of bytes) ≡ bytes → number_of bytes ≤ AMOUNT_LIMIT → IsPlain bytes
is-plain bytes is most = subst IsPlain is (decimal_plain (number_of bytes) (omega arith))

-- What `decimal` reads up to the greatest amount is the amount that the bytes spell.
pub amount-read : (bytes : List ℕ) (result : Option ℕ) → SomeIff result (IsPlain bytes × (0 ≤ number_of bytes) × (number_of bytes ≤ AMOUNT_LIMIT)) (number_of bytes) → result ≡ amount_in bytes
amount-read bytes None not = by (bytes_eq (decimal (number_of bytes)) bytes) (nat_le (number_of bytes) AMOUNT_LIMIT) refl refl
  where
    by : (a b : Bool) → bytes_eq (decimal (number_of bytes)) bytes ≡ a → nat_le (number_of bytes) AMOUNT_LIMIT ≡ b → None ≡ (if a && b then Some (number_of bytes) else None)
    by false b e l = refl
    by true false e l = refl
    by true true e l =
        let m : number_of bytes ≤ AMOUNT_LIMIT = grind (arith, nat_tests) in
        absurd (not (is-plain bytes (equal-bytes (decimal (number_of bytes)) bytes e) m, omega arith, m))
amount-read bytes (Some n) is =
    let a : bytes_eq (decimal (number_of bytes)) bytes ≡ true = ap (λ (x : List ℕ). bytes_eq x bytes) (plain-is bytes is.0.0 is.0.2) ∙ same_bytes bytes in
    let m : number_of bytes ≤ AMOUNT_LIMIT = is.0.2 in
    let b : nat_le (number_of bytes) AMOUNT_LIMIT ≡ true = grind (arith, nat_tests) in
    rw (a, b) (ap Some is.1)
