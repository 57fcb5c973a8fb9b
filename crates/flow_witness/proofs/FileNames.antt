-- That a text names a file, by a test that computes.
use Rattle.std.proofs.Common.{◌≡◌, ◌≢◌, ℕ, zero, suc, ◌<◌, ◌≤◌, Bool, true, List, [], ◌∷◌, length, nat_lt, arith}
use Rattle.std.specs.Prelude.{◌&&◌}
use Rattle.std.specs.List.{All, list_all, slice_index}
use Rattle.std.proofs.lemmas.Bool.{and_parts}
use Rattle.std.proofs.lemmas.Bool.Decides.{nat_tests}
use Rattle.std.proofs.lemmas.Str.{IsUtf8-from_ascii}
use Rattle.flow_plan.specs.Texts.{IsFileName}

-- The byte isn't zero, and stands for a character by itself.
abbrev pub is_plain_byte : ℕ → Bool
is_plain_byte b = nat_lt 0 b && nat_lt b 128

-- One to 255 of such bytes.
abbrev pub is_plain_name : List ℕ → Bool
is_plain_name bytes = (nat_lt 0 (length bytes) && nat_lt (length bytes) 256) && list_all is_plain_byte bytes

plain-below : (b : ℕ) → is_plain_byte b ≡ true → b < 128
plain-below b plain = let below = (and_parts (nat_lt 0 b) (nat_lt b 128) plain).1 in grind (arith, nat_tests)

plain-some : (b : ℕ) → is_plain_byte b ≡ true → b ≢ 0
plain-some b plain = λ none. let some = (and_parts (nat_lt 0 b) (nat_lt b 128) plain).0 in absurd (grind (arith, nat_tests))

each-below : (bytes : List ℕ) → list_all is_plain_byte bytes ≡ true → (i : ℕ) → slice_index bytes i < 128
each-below [] plain i = omega arith
each-below (b ∷ bytes) plain zero = plain-below b (and_parts (is_plain_byte b) (list_all is_plain_byte bytes) plain).0
each-below (b ∷ bytes) plain (suc i) = each-below bytes (and_parts (is_plain_byte b) (list_all is_plain_byte bytes) plain).1 i

each-some : (bytes : List ℕ) → list_all is_plain_byte bytes ≡ true → All (λ b. b ≢ 0) bytes
each-some [] plain k d below = absurd (omega (arith, below))
each-some (b ∷ bytes) plain zero d below = plain-some b (and_parts (is_plain_byte b) (list_all is_plain_byte bytes) plain).0
each-some (b ∷ bytes) plain (suc k) d below = each-some bytes (and_parts (is_plain_byte b) (list_all is_plain_byte bytes) plain).1 k d (omega (arith, below))

at-least-one : (n : ℕ) → (nat_lt 0 n && nat_lt n 256) ≡ true → (1 ≤ n) × (n ≤ 255)
at-least-one n within =
    let parts = and_parts (nat_lt 0 n) (nat_lt n 256) within in
    let some = parts.0 in
    let few = parts.1 in
    (grind (arith, nat_tests), grind (arith, nat_tests))

-- Bytes that pass the test name a file.
pub plain-name : (bytes : List ℕ) → is_plain_name bytes ≡ true → IsFileName bytes
plain-name bytes passes =
    let parts = and_parts (nat_lt 0 (length bytes) && nat_lt (length bytes) 256) (list_all is_plain_byte bytes) passes in
    let size = at-least-one (length bytes) parts.0 in
    (size.0, size.1, IsUtf8-from_ascii bytes (each-below bytes parts.1), each-some bytes parts.1)
