use Rattle.std.proofs.Common.{◌≡◌, ℕ, ◌+◌, List, [], ◌∷◌, ◌++◌, length, length-append, refl, sym, ap, ◌∙◌, subst, arith}
use Rattle.flow_floor.specs.Floors.{IsCrewOf}
use Rattle.flow_trials.proofs.floor.opened.opened.Goals as goal

-- a list of two that ends with these
two : {A : Type 0} (all front rest : List A) (first second : A) → all ≡ front ++ second ∷ [] → front ≡ rest ++ first ∷ [] → length all ≡ 2 → all ≡ first ∷ second ∷ []
two all front [] first second a b l = a ∙ ap (λ us. us ++ second ∷ []) b
two all front (x ∷ rest) first second a b l =
    let m : length all ≡ length front + 1 = ap length a ∙ length-append front (second ∷ []) in
    let n : length front ≡ length (x ∷ rest) + 1 = ap length b ∙ length-append (x ∷ rest) (first ∷ []) in
    absurd (omega (arith, l, m, n))

-- src/floor/opened.rt:29:1
pub returns-clause-crew : goal.returns-clause-crew
returns-clause-crew g c =
    let crew = c.in-Ok-open.ensures.crew in
    subst (IsCrewOf c.in-Ok-open.opened.floor) (two _ _ _ c.in-Some-Some.first c.in-Some-Some.second c.in-Some-Some.ensures.items c.in-Some-Some.ensures'.items crew.1) crew.0

-- src/floor/opened.rt:29:1
pub returns-clause-idle : goal.returns-clause-idle
returns-clause-idle g c =
    let crew = returns-clause-crew g c in
    (crew.0 0 c.in-Some-Some.first (omega arith), crew.0 1 c.in-Some-Some.first (omega arith))
