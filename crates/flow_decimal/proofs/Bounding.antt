-- The first byte of a text that passes a test.
use Rattle.std.proofs.Common.{◌≡◌, ℕ, ◌≤◌, Bool, true, false, List, length, Some, None, refl, cond, arith, nat_lt}
use Rattle.std.specs.Prelude.{unwrap_or, not}
use Rattle.std.specs.List.{position, position_or_len}
use Rattle.std.proofs.lemmas.List.Sums.{prefix_len-le-length}
use Rattle.flow_decimal.proofs.Fitting.{test-above}

by-test : (b : Bool) (p n : ℕ) → p ≤ n → nat_lt p n ≡ b → unwrap_or (cond b (Some p) None) n ≡ p
by-test true p n h e = refl
by-test false p n h e = omega (arith, test-above p n e)

pub place-within : (test : ℕ → Bool) (text : List ℕ) → position_or_len test text ≤ length text
place-within test text = prefix_len-le-length (λ x. not (test x)) text

-- its place, or the length where there is none
pub place-or-length : (test : ℕ → Bool) (text : List ℕ) → unwrap_or (position test text) (length text) ≡ position_or_len test text
place-or-length test text = by-test (nat_lt (position_or_len test text) (length text)) (position_or_len test text) (length text) (place-within test text) refl
