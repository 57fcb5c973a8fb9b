-- The first of a list that fails.
use Rattle.std.specs.Prelude.{◌≡◌, ℕ, List, take, Some, Ok, Err, slice_get}
use Rattle.std.specs.declared.result.Result.{Result}

-- Each one passes, seen with those before it.
abbrev pub AllPass : {X F : Type 0} → (List X → X → Result (Unit {0}) F → Type 0) → List X → Type 0
AllPass {X} Test xs = (k : ℕ) (x : X) → slice_get xs k ≡ Some x → Test (take k xs) x (Ok tt)

-- One fails with this fault, and each one before it passes.
pub record FirstFails {X F : Type 0} (Test : List X → X → Result (Unit {0}) F → Type 0) (xs : List X) (fault : F) : Type 0 where
  pub place : ℕ
  pub one : X
  pub here : slice_get xs place ≡ Some one
  pub fails : Test (take place xs) one (Err fault)
  pub before : AllPass Test (take place xs)
