-- States of a network without components of the caller's own, in which such may stand: each is the state of a network of the others.
use Rattle.std.proofs.Common.{◌≡◌, ℕ, ◌+◌, suc, List, [], ◌∷◌, Some, refl, ap, sym, subst, ◌∙◌, slice_get}
use Rattle.flow_packet.specs.Held.{Held}
use Rattle.flow_component.specs.declared.Answer.{Answer}
use Rattle.flow_component.specs.Laws.{Rules, Outcome, Wishes, Fails, component_after}
use Rattle.flow_component.specs.Outcomes.{outcome_as}
use Rattle.flow_plan.specs.Network.{Network as Plan}
use Rattle.flow_plan.specs.declared.plan.Process.{Process as PlanProcess}
use Rattle.flow_own.specs.Tapes.{OwnValue}
use Rattle.flow_own.specs.Mixed.{Mixed, Other, Own}
use Rattle.flow_model.specs.States.{Process, State}
use Rattle.flow_model.specs.Plans.{start_of, process_at_start, processes_at_start}
use Rattle.flow_model.specs.Replaced.{with_component, all_replaced, replaced, OfEach, Mimics}
use Rattle.flow_model.proofs.Replacing.{replaced-from}
use Rattle.flow_played.specs.Rules.{PlayedNext, played_rules}
use Rattle.flow_played.specs.Others.{IsOther, others, other_at, as_mixed}
use Rattle.flow_played.proofs.Throughout.{Stays}

-- the start of a plan
processes-start : {K : Type 0} (plan : Plan) (p : ℕ) (xs : List PlanProcess) (components : List K) → all_replaced other_at (processes_at_start plan p xs components) ≡ processes_at_start plan p xs (others components)
processes-start plan p [] components = refl
processes-start plan p (x ∷ xs) [] = refl
processes-start plan p (x ∷ xs) (component ∷ components) = ap (λ ys. process_at_start plan p x (Other component) ∷ ys) (processes-start plan (p + 1) xs components)

-- The start of a plan, with components among which the caller's own may be and aren't, is its start with these components.
pub start-others : {K : Type 0} (plan : Plan) (components : List K) → as_mixed (start_of plan components) ≡ start_of plan (others components)
start-others {K} plan components =
    let same = processes-start plan 0 plan.processes components in
    λ i. record { kept = record { processes = same i; channels = (start_of plan components).kept.channels }; past = (start_of plan components).past }

-- components none of which is the caller's own
more-others : {K : Type 0} (component : Mixed K) (components : List (Mixed K)) → IsOther component → ((found : List K) × (components ≡ others found)) → (found : List K) × (component ∷ components ≡ others found)
more-others (Other component) components other rest = (component ∷ rest.0, ap (λ cs. Other component ∷ cs) rest.1)
more-others (Own own) components other rest = absurd other

-- Components none of which is the caller's own are the others alone.
pub are-others : {K : Type 0} (components : List (Mixed K)) → ((p : ℕ) (component : Mixed K) → slice_get components p ≡ Some component → IsOther component) → (found : List K) × (components ≡ others found)
are-others [] each = ([], refl)
are-others (component ∷ components) each = more-others component components (each 0 component refl) (are-others components (λ p c there. each (suc p) c there))

-- in such a state no component is the caller's own
pub all-other : {K : Type 0} (s : State K) → OfEach (λ p (component : Mixed K). IsOther component) (as_mixed s)
all-other {K} s = λ p y there. (let from = replaced-from other_at s.kept.processes p y there in subst (λ (z : Process (Mixed K)). IsOther z.component) from.2 tt)

-- and a state in which none is one is such
more-other : {K : Type 0} (y : Process (Mixed K)) (ys : List (Process (Mixed K))) (component : Mixed K) → y.component ≡ component → IsOther component → ((xs : List (Process K)) × (ys ≡ all_replaced other_at xs))
    → (xs : List (Process K)) × (y ∷ ys ≡ all_replaced other_at xs)
more-other y ys (Other component) is other rest = (with_component y component ∷ rest.0, (λ i. with_component y (is i) ∷ rest.1 i))
more-other y ys (Own own) is other rest = absurd other

processes-other : {K : Type 0} (ys : List (Process (Mixed K))) → ((p : ℕ) (y : Process (Mixed K)) → slice_get ys p ≡ Some y → IsOther y.component) → (xs : List (Process K)) × (ys ≡ all_replaced other_at xs)
processes-other [] each = ([], refl)
processes-other (y ∷ ys) each = more-other y ys y.component refl (each 0 y refl) (processes-other ys (λ p z there. each (suc p) z there))

-- A state in which no component is the caller's own is one of the other components.
pub only-other : {K : Type 0} (t : State (Mixed K)) → OfEach (λ p (component : Mixed K). IsOther component) t → (s : State K) × (t ≡ as_mixed s)
only-other {K} t each =
    let from = processes-other t.kept.processes each in
    (record { kept = record { processes = from.0; channels = t.kept.channels }; past = t.past }, (λ i. record { kept = record { processes = from.1 i; channels = t.kept.channels }; past = t.past }))

-- The component that it is, and some other where it is the caller's own.
abbrev pub back : {K : Type 0} → K → ℕ → Mixed K → K
back some p (Other component) = component
back some p (Own own) = some

processes-back : {K : Type 0} (some : K) (xs : List (Process K)) → all_replaced (back some) (all_replaced other_at xs) ≡ xs
processes-back some [] = refl
processes-back some (x ∷ xs) = ap (λ ys. x ∷ ys) (processes-back some xs)

-- With the components that they are, it is the state that it was.
pub state-back : {K : Type 0} (some : K) (s : State K) → replaced (back some) (as_mixed s) ≡ s
state-back some s = let same = processes-back some s.kept.processes in λ i. record { kept = record { processes = same i; channels = s.kept.channels }; past = s.past }

module _ {K : Type 0} (rules : Rules K) where
  -- the components among those of such a network come to the same
  pub others-mimic : Mimics rules (played_rules rules) (λ p component. Unit {0}) other_at
  others-mimic = record { before = λ p component held answer outcome next after. tt; same = λ p component held answer outcome next after. (tt, (outcome, next, refl)) }

  other-after : (outcome : Outcome K) → IsOther (component_after (outcome_as Other outcome))
  other-after (Wishes component held wish) = tt
  other-after (Fails component held cause) = tt

  own-after : (outcome : Outcome OwnValue) → IsOther {K = K} (component_after (outcome_as Own outcome)) → ⊥
  own-after (Wishes own held wish) h = h
  own-after (Fails own held cause) h = h

  outcome-back : (some : K) (p : ℕ) (outcome : Outcome K) → outcome_as (back some p) (outcome_as Other outcome) ≡ outcome
  outcome-back some p (Wishes component held wish) = refl
  outcome-back some p (Fails component held cause) = refl

  -- such a component stays one
  pub stays-other : Stays (played_rules rules) (λ p component. IsOther component)
  stays-other p (Other component) held answer outcome next other = subst (λ (o : Outcome (Mixed K)). IsOther (component_after o)) (sym next.1.2) (other-after next.1.0)
  stays-other p (Own own) held answer outcome next other = absurd other

  before : (p : ℕ) (component : Mixed K) (held : Held) (answer : Answer) (outcome : Outcome (Mixed K)) → PlayedNext rules component held answer outcome → IsOther (component_after outcome) → IsOther component
  before p (Other component) held answer outcome next other = tt
  before p (Own own) held answer outcome next other = own-after next.1.0 (subst (λ (o : Outcome (Mixed K)). IsOther (component_after o)) next.1.2 other)

  same : (some : K) (p : ℕ) (component : Mixed K) (held : Held) (answer : Answer) (outcome : Outcome (Mixed K)) → PlayedNext rules component held answer outcome → IsOther (component_after outcome)
      → rules.next (back some p component) held answer (outcome_as (back some p) outcome)
  same some p (Other component) held answer outcome next other =
      let is : next.1.0 ≡ outcome_as (back some p) outcome = sym (ap (outcome_as (back some p)) next.1.2 ∙ outcome-back some p next.1.0) in
      subst (rules.next component held answer) is next.1.1
  same some p (Own own) held answer outcome next other = absurd (before p (Own own) held answer outcome next other)

  -- and comes to what it comes to by itself
  pub back-mimic : (some : K) → Mimics (played_rules rules) rules (λ p component. IsOther component) (back some)
  back-mimic some = record { before = before; same = same some }
