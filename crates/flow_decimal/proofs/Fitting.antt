-- Which whole numbers have 128 bits.
use Rattle.std.proofs.Common.{◌≡◌, ℕ, zero, suc, ◌^◌, ◌<◌, ◌≤◌, Bool, true, false, arith, nat_lt}
use Rattle.std.specs.Prelude.{ℤ, pos, negsuc, FitsSigned}
use Rattle.std.specs.Int.{w128}
use Rattle.std.proofs.lemmas.Bool.{false_from_ne_true}
use Rattle.std.proofs.lemmas.Bool.Decides.{nat_tests}
use Rattle.flow_decimal.specs.Numbers.{fits, with_sign}

pub below-test : (a b : ℕ) → a < b → nat_lt a b ≡ true
below-test a b h = grind (arith, nat_tests)

pub test-below : (a b : ℕ) → nat_lt a b ≡ true → a < b
test-below a b h = grind (arith, nat_tests)

pub above-test : (a b : ℕ) → ¬ (a < b) → nat_lt a b ≡ false
above-test a b h = false_from_ne_true (nat_lt a b) (λ e. h (test-below a b e))

pub test-above : (a b : ℕ) → nat_lt a b ≡ false → b ≤ a
test-above a b h = grind (arith, nat_tests)

-- the test and std's word
pub fits-test : (z : ℤ) → FitsSigned w128 z → fits z ≡ true
fits-test (pos n) f = below-test n (2 ^ 127) f.sfits
fits-test (negsuc n) f = below-test n (2 ^ 127) f.sfits

pub test-fits : (z : ℤ) → fits z ≡ true → FitsSigned w128 z
test-fits (pos n) e = record { sfits = test-below n (2 ^ 127) e }
test-fits (negsuc n) e = record { sfits = test-below n (2 ^ 127) e }

pub fits-not : (z : ℤ) → ¬ (FitsSigned w128 z) → fits z ≡ false
fits-not z h = false_from_ne_true (fits z) (λ e. h (test-fits z e))

-- what has more bits than a size may have doesn't fit with a sign either
pub large-not : (negative : Bool) (size : ℕ) → 2 ^ 128 ≤ size → fits (with_sign negative size) ≡ false
large-not true zero h = absurd (omega arith)
large-not true (suc n) h = above-test n (2 ^ 127) (λ k. omega arith)
large-not false size h = above-test size (2 ^ 127) (λ k. omega arith)
