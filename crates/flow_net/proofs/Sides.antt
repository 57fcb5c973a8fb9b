-- Tests of sides, on the same values.
use Rattle.std.proofs.Common.{◌≡◌, ℕ, Bool, true, false, refl, arith}
use Rattle.std.specs.Prelude.{◌==◌}
use Rattle.std.proofs.lemmas.Bool.Decides.{nat_tests}
use Rattle.flow_net.specs.Drafts.{same}

-- A number equals itself, as the program compares.
pub eqb_refl : (n : ℕ) → (n == n) ≡ true
eqb_refl n = grind (arith, nat_tests)

-- An answer agrees with itself.
pub same_refl : (b : Bool) → same b b ≡ true
same_refl true = refl
same_refl false = refl
