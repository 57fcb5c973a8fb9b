-- The first of a list that fails, found one by one.
use Rattle.std.proofs.Common.{◌≡◌, ℕ, ◌<◌, ◌≤◌, List, [], ◌∷◌, ◌++◌, length, take, Some, Ok, Err, ap, sym, subst, ◌∙◌, ◌⊎◌, inl, inr, slice_get, arith}
use Rattle.std.specs.declared.result.Result.{Result}
use Rattle.std.proofs.Math.Seq.{take-append_seam}
use Rattle.std.proofs.lemmas.List.{take-append-le}
use Rattle.std.proofs.lemmas.Option.{slice_get_within}
use Rattle.flow_net.proofs.Wiring.{slice_get-push_cases}
use Rattle.flow_plan.proofs.PortNames.{slice_get-right}
use Rattle.flow_flat.specs.Firsts.{AllPass, FirstFails}

-- Of no members each passes.
pub all_none : {X F : Type 0} (Test : List X → X → Result (Unit {0}) F → Type 0) → AllPass Test []
all_none Test k x is = absurd (cc)

-- One more that passes.
pub all_push : {X F : Type 0} (Test : List X → X → Result (Unit {0}) F → Type 0) (xs : List X) (x : X) → AllPass Test xs → Test xs x (Ok tt) → AllPass Test (xs ++ x ∷ [])
all_push {X} Test xs x all one k y is = by (slice_get-push_cases xs x y k is) where
  by : (slice_get xs k ≡ Some y) ⊎ ((k ≡ length xs) × (x ≡ y)) → Test (take k (xs ++ x ∷ [])) y (Ok tt)
  by (inl old) =
      let within : k < length xs = slice_get_within xs k y old in
      let few : k ≤ length xs = omega arith in
      subst (λ (l : List X). Test l y (Ok tt)) (sym (take-append-le k xs (x ∷ []) few)) (all k y old)
  by (inr new) =
      let cut : take k (xs ++ x ∷ []) ≡ xs = ap (λ (n : ℕ). take n (xs ++ x ∷ [])) new.0 ∙ take-append_seam xs (x ∷ []) in
      subst (λ (l : List X). Test l y (Ok tt)) (sym cut) (subst (λ (z : X). Test xs z (Ok tt)) new.1 one)

-- One that fails, behind those that pass.
pub first_here : {X F : Type 0} (Test : List X → X → Result (Unit {0}) F → Type 0) (all xs : List X) (x : X) (more : List X) (fault : F) → all ≡ xs ++ (x ∷ more) → AllPass Test xs → Test xs x (Err fault) → FirstFails Test all fault
first_here {X} Test all xs x more fault is pass one = subst (λ (l : List X). FirstFails Test l fault) (sym is) (record {
  place = length xs;
  one = x;
  here = slice_get-right xs (x ∷ more) (length xs) 0 (omega arith);
  fails = subst (λ (l : List X). Test l x (Err fault)) (sym (take-append_seam xs (x ∷ more))) one;
  before = subst (λ (l : List X). AllPass Test l) (sym (take-append_seam xs (x ∷ more))) pass;
})
