-- A part comes to parts alone.
use Rattle.std.proofs.Common.{◌≡◌, ℕ, Option, None, Some, sym, ap, ◌∙◌, subst, refl}
use Rattle.flow_packet.specs.Held.{Held}
use Rattle.flow_component.specs.declared.Answer.{Answer}
use Rattle.flow_component.specs.Laws.{Rules, Outcome, Wishes, Fails, component_after}
use Rattle.flow_component.specs.Outcomes.{outcome_as}
use Rattle.flow_own.specs.declared.tape.End.{End}
use Rattle.flow_own.specs.declared.tape.End.TheVariants as ends
use Rattle.flow_own.specs.Tapes.{OwnValue, NextAs, after_entry, outcome_by}
use Rattle.flow_own.specs.Mixed.{Other, Own, mixed_rules}
use Rattle.flow_played.specs.Kept.{IsPart}
use Rattle.flow_played.proofs.Throughout.{Stays}

after-by : (own : OwnValue) (held : Held) (end : End) → component_after (outcome_by own held end) ≡ own
after-by own held (ends.Wish wish) = refl
after-by own held (ends.Fail cause) = refl

after-as : {K L : Type 0} (f : K → L) (outcome : Outcome K) → component_after (outcome_as f outcome) ≡ f (component_after outcome)
after-as f (Wishes component held wish) = refl
after-as f (Fails component held cause) = refl

no-place : (place : Option ℕ) (own : OwnValue) (held : Held) (answer : Answer) (outcome : Outcome OwnValue) → own.place ≡ place → place ≡ None → NextAs place own held answer outcome → (component_after outcome).place ≡ None
no-place None own held answer outcome is none next =
    let entry = next.0 in
    ap (λ (o : Outcome OwnValue). (component_after o).place) next.2 ∙ (ap (λ (v : OwnValue). v.place) (after-by _ (after_entry held entry) entry.end) ∙ is)
no-place (Some place) own held answer outcome is none next = absurd cc

-- A part that isn't a player stays one, whatever it is told.
pub parts-stay : {K : Type 0} (rules : Rules K) → Stays (mixed_rules rules) (λ p. IsPart)
parts-stay rules p (Other component) held answer outcome next part = subst IsPart (sym (ap component_after next.2 ∙ after-as Other next.0)) tt
parts-stay rules p (Own own) held answer outcome next part = subst IsPart (sym (ap component_after next.2 ∙ after-as Own next.0)) (no-place own.place own held answer next.0 refl part next.1)
