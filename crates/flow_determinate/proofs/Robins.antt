-- After a round robin no process has a turn.
use Rattle.std.proofs.Common.{◌≡◌, ℕ, ◌<◌, List, [], ◌∷◌, ◌++◌, length, refl, sym, ap, ◌∙◌, subst, arith, inl, inr, zero, suc}
use Rattle.std.proofs.lemmas.Option.{slice_get_within}
use Rattle.flow_component.specs.Laws.{Rules}
use Rattle.flow_model.specs.States.{State}
use Rattle.flow_model.specs.Schedules.{Journal, no_turns}
use Rattle.flow_model.specs.Verdicts.{HasNoTurn}
use Rattle.flow_model.specs.Robin.{TurnsOf, Burst, PassBelow, RoundRobin}
use Rattle.flow_model.proofs.Lists.{same_or_not}
use Rattle.flow_determinate.specs.Determinate.{IsStill}

front-empty : {A : Type 0} (xs ys : List A) → xs ++ ys ≡ [] → (xs ≡ []) × (ys ≡ [])
front-empty [] ys is = (refl, is)
front-empty (x ∷ xs) ys is = absurd (cc)

same-journal : (j k : Journal) → j.turns ≡ k.turns → j.seen ≡ k.seen → j ≡ k
same-journal j k turns seen = λ i. record { turns = turns i; seen = seen i }

module _ {K : Type 0} (rules : Rules K) where
  -- a burst without a turn
  burst-still : (p : ℕ) (s : State K) (j : Journal) (s' : State K) → j ≡ no_turns → Burst rules p s j s' → (s' ≡ s) × HasNoTurn s'.kept p
  burst-still p s j s' none burst =
      let turns : TurnsOf rules p s [] [] s' = subst (λ (k : Journal). TurnsOf rules p s k.turns k.seen s') none burst.0 in
      (turns.1, burst.1)

  -- a pass without a turn leaves all as it is, and those below have none
  pass-still : (n : ℕ) (s : State K) (j : Journal) (s' : State K) → j ≡ no_turns → PassBelow rules n s j s' → (s' ≡ s) × ((p : ℕ) → p < n → HasNoTurn s.kept p)
  pass-still zero s j s' none pass = (pass.1, λ p below. absurd (omega (arith, below)))
  pass-still (suc n) s j s' none pass =
      let whole = sym pass.3 ∙ none in
      let turns = front-empty pass.0.turns pass.1.turns (ap (λ (k : Journal). k.turns) whole) in
      let seen = front-empty pass.0.seen pass.1.seen (ap (λ (k : Journal). k.seen) whole) in
      let front = pass-still n s pass.0 pass.2 (same-journal pass.0 no_turns turns.0 seen.0) pass.4 in
      let back = burst-still n pass.2 pass.1 s' (same-journal pass.1 no_turns turns.1 seen.1) pass.5 in
      let same : s' ≡ s = back.0 ∙ front.0 in (
        same,
        λ p below. elim (same_or_not p n) as (λ _. HasNoTurn s.kept p) [
          | inl here ↦ subst (λ (k : ℕ). HasNoTurn s.kept k) (sym here) (subst (λ (t : State K). HasNoTurn t.kept n) same back.1)
          | inr other ↦ front.1 p (below-other p n below other)
        ],
      )
    where
      below-other : (p n : ℕ) → p < suc n → (p ≡ n → ⊥) → p < n
      below-other p n below other = grind (arith)

  -- after a round robin no process has a turn
  pub robin-still : (s : State K) (journal : Journal) (s' : State K) → RoundRobin rules s journal s' → IsStill s'
  robin-still s journal s' robin p x n there = (pass-still (length s'.kept.processes) s' no_turns s' refl robin.last).1 p (slice_get_within s'.kept.processes p x there) x n there
