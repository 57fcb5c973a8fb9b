-- A network without components of the caller's own has the schedules of the network of its other components, and no others.
use Rattle.std.proofs.Common.{◌≡◌, ◌⊎◌, ℕ, zero, suc, List, [], ◌∷◌, Some, length, refl, ap, sym, subst, ◌∙◌, inl, inr, arith, slice_get}
use Rattle.flow_component.specs.Laws.{Rules}
use Rattle.flow_own.specs.Mixed.{Mixed}
use Rattle.flow_model.specs.States.{Process, State}
use Rattle.flow_model.specs.Schedules.{Journal, LeadsBy, Leads, Prefix, no_turns}
use Rattle.flow_model.specs.Robin.{PassBelow, Passes, joined, RoundRobin}
use Rattle.flow_model.specs.Replaced.{all_replaced, replaced}
use Rattle.flow_model.proofs.Replacing.{replaced-leads}
use Rattle.flow_played.specs.Rules.{played_rules}
use Rattle.flow_played.specs.Others.{IsOther, other_at, as_mixed}
use Rattle.flow_played.proofs.Robins.{robin-replaced}
use Rattle.flow_played.proofs.Throughout.{leads-throughout}
use Rattle.flow_played.proofs.Others.{all-other, only-other, back, state-back, others-mimic, stays-other, back-mimic}

-- no process is there, and so there is no turn
module _ {K : Type 0} (rules : Rules K) where
  leads-nowhere : (s : State K) (turns seen : List ℕ) (s' : State K) → s.kept.processes ≡ [] → LeadsBy rules s turns seen s' → (turns ≡ []) × (seen ≡ []) × (s' ≡ s)
  leads-nowhere s [] seen s' none is = (refl, is.0, is.1)
  leads-nowhere s (p ∷ turns) seen s' none leads =
      let there : slice_get [] p ≡ Some leads.3.1.kept.before = subst (λ (xs : List (Process K)). slice_get xs p ≡ Some leads.3.1.kept.before) none leads.3.1.kept.there in
      absurd cc

  pass-nowhere : (n : ℕ) (s : State K) (journal : Journal) (s' : State K) → n ≡ 0 → PassBelow rules n s journal s' → (journal ≡ no_turns) × (s' ≡ s)
  pass-nowhere zero s journal s' none is = is
  pass-nowhere (suc p) s journal s' none is = absurd (omega (arith, none))

  passes-nowhere : (s : State K) (passes : List Journal) (s' : State K) → s.kept.processes ≡ [] → Passes rules s passes s' → (passes ≡ []) × (s' ≡ s)
  passes-nowhere s [] s' none is = (refl, is)
  passes-nowhere s (pass ∷ passes) s' none is =
      absurd (is.0 (ap (λ (j : Journal). j.turns) (pass-nowhere (length s.kept.processes) s pass is.1.0 (ap length none) is.1.1).0))

  stays-nowhere : (s : State K) (journal : Journal) (s' : State K) → s.kept.processes ≡ [] → journal ≡ no_turns → s' ≡ s → RoundRobin rules s journal s'
  stays-nowhere s journal s' none no_turn same = record {
    passes = [];
    whole = no_turn;
    go = same;
    last = subst (λ (n : ℕ). PassBelow rules n s' no_turns s') (sym (ap (λ (t : State K). length t.kept.processes) same ∙ ap length none)) (refl, refl);
  }

-- there is a process, or none
some-process : {K : Type 0} (xs : List (Process K)) → K ⊎ (xs ≡ [])
some-process [] = inr refl
some-process (x ∷ xs) = inl x.component

empty-from : {K : Type 0} (xs : List (Process K)) → all_replaced other_at xs ≡ [] → xs ≡ []
empty-from [] is = refl
empty-from (x ∷ xs) is = absurd cc

-- two states without processes that are one state in such a network are one
same-nowhere : {K : Type 0} (s s' : State K) → s.kept.processes ≡ [] → as_mixed s' ≡ as_mixed s → s' ≡ s
same-nowhere {K} s s' none same =
    let there : all_replaced other_at s'.kept.processes ≡ [] = ap (λ (t : State (Mixed K)). t.kept.processes) same ∙ ap (all_replaced other_at) none in
    let processes = empty-from s'.kept.processes there ∙ sym none in
    let channels = ap (λ (t : State (Mixed K)). t.kept.channels) same in
    let past = ap (λ (t : State (Mixed K)). t.past) same in
    λ i. record { kept = record { processes = processes i; channels = channels i }; past = past i }

module _ {K : Type 0} (rules : Rules K) where
  -- a schedule, a prefix and a round robin of the others, as those of such a network
  pub leads-up : (s : State K) (journal : Journal) (s' : State K) → Leads rules s journal s' → Leads (played_rules rules) (as_mixed s) journal (as_mixed s')
  leads-up s journal s' leads = replaced-leads rules (played_rules rules) (λ p component. Unit {0}) other_at (others-mimic rules) journal s s' leads (λ p x there. tt)

  pub prefix-up : (s : State K) (journal : Journal) (s' : State K) (front : Journal) (mid : State K) → Prefix rules s journal s' front mid
      → Prefix (played_rules rules) (as_mixed s) journal (as_mixed s') front (as_mixed mid)
  prefix-up s journal s' front mid prefix = record { back = prefix.back; whole = prefix.whole; first = leads-up s front mid prefix.first; rest = leads-up mid prefix.back s' prefix.rest }

  pub robin-up : (s : State K) (journal : Journal) (s' : State K) → RoundRobin rules s journal s' → RoundRobin (played_rules rules) (as_mixed s) journal (as_mixed s')
  robin-up s journal s' round = robin-replaced rules (played_rules rules) (λ p component. Unit {0}) other_at (others-mimic rules) s journal s' round (λ p x there. tt)

  -- where a schedule of such a network leads no component is the caller's own
  pub leads-only : (s : State K) (journal : Journal) (t : State (Mixed K)) → Leads (played_rules rules) (as_mixed s) journal t → (s' : State K) × (t ≡ as_mixed s')
  leads-only s journal t leads =
      only-other t (leads-throughout (played_rules rules) (λ p component. IsOther component) (stays-other rules) (as_mixed s) journal.turns journal.seen t leads (all-other s))

  -- and it is a schedule of the others, as is a prefix, and a round robin
  pub leads-down : (s : State K) (journal : Journal) (s' : State K) → Leads (played_rules rules) (as_mixed s) journal (as_mixed s') → Leads rules s journal s'
  leads-down s journal s' leads = by (some-process s.kept.processes)
    where
      by : K ⊎ (s.kept.processes ≡ []) → Leads rules s journal s'
      by (inl some) =
          let down = replaced-leads (played_rules rules) rules (λ p component. IsOther component) (back some) (back-mimic rules some) journal (as_mixed s) (as_mixed s') leads (all-other s') in
          subst (λ (t : State K). Leads rules t journal s') (state-back some s) (subst (Leads rules (replaced (back some) (as_mixed s)) journal) (state-back some s') down)
      by (inr none) =
          let nowhere = leads-nowhere (played_rules rules) (as_mixed s) journal.turns journal.seen (as_mixed s') (ap (all_replaced other_at) none) leads in
          subst (λ (turns : List ℕ). LeadsBy rules s turns journal.seen s') (sym nowhere.0) (nowhere.1, same-nowhere s s' none nowhere.2)

  pub prefix-down : (s : State K) (journal : Journal) (s' : State K) (front : Journal) (mid : State K)
      → Prefix (played_rules rules) (as_mixed s) journal (as_mixed s') front (as_mixed mid) → Prefix rules s journal s' front mid
  prefix-down s journal s' front mid prefix =
      record { back = prefix.back; whole = prefix.whole; first = leads-down s front mid prefix.first; rest = leads-down mid prefix.back s' prefix.rest }

  pub robin-down : (s : State K) (journal : Journal) (s' : State K) → RoundRobin (played_rules rules) (as_mixed s) journal (as_mixed s') → RoundRobin rules s journal s'
  robin-down s journal s' round = by (some-process s.kept.processes)
    where
      by : K ⊎ (s.kept.processes ≡ []) → RoundRobin rules s journal s'
      by (inl some) =
          let down = robin-replaced (played_rules rules) rules (λ p component. IsOther component) (back some) (back-mimic rules some) (as_mixed s) journal (as_mixed s') round (all-other s') in
          subst (λ (t : State K). RoundRobin rules t journal s') (state-back some s) (subst (RoundRobin rules (replaced (back some) (as_mixed s)) journal) (state-back some s') down)
      by (inr none) =
          let nowhere = passes-nowhere (played_rules rules) (as_mixed s) round.passes (as_mixed s') (ap (all_replaced other_at) none) round.go in
          stays-nowhere rules s journal s' none (round.whole ∙ ap joined nowhere.0) (same-nowhere s s' none nowhere.1)
