-- That a component of the caller's own or another keeps the laws of components, since each of the two does.
use Rattle.std.proofs.Common.{Result, Ok, Err, refl, sym, ◌∙◌, ap, subst}
use Rattle.flow_packet.specs.Hands.{Holding}
use Rattle.flow_packet.specs.Held.{Held, held_of}
use Rattle.flow_component.specs.declared.Answer.{Answer}
use Rattle.flow_component.specs.declared.Wish.{Wish}
use Rattle.flow_component.specs.declared.Stop.{Stop}
use Rattle.flow_component.specs.declared.Stop.TheVariants as stops
use Rattle.flow_component.specs.Laws.{Rules, Lawful, Outcome, Wishes, Fails, Obeys, StaysReady, IsSteady, HasOutcome}
use Rattle.flow_component.specs.Outcomes.{outcome_as}
use Rattle.flow_component.specs.Resumes.{Resumes}
use Rattle.flow_component.proofs.Lifting.{Obeys-as, StaysReady-as, component_after-as}
use Rattle.flow_own.specs.Tapes.{OwnValue, own_uses, OwnNext, own_rules}
use Rattle.flow_own.specs.TapesLaws.{own_lawful}
use Rattle.flow_own.specs.Mixed.{Mixed, Other, Own, MixedNext, MixedReady, mixed_shape, mixed_uses, mixed_rules}

module _ {K : Type 0} (rules : Rules K) where
  obeys : Lawful rules → (component : Mixed K) (held : Held) (answer : Answer) (outcome : Outcome (Mixed K)) → MixedReady rules component held answer → MixedNext rules component held answer outcome
      → Obeys (mixed_shape rules component) (mixed_uses rules component) held outcome
  obeys lawful (Other component) held answer outcome r n =
      subst (Obeys (rules.shape component) (rules.uses component) held) (sym n.2) (Obeys-as Other (rules.shape component) (rules.uses component) held n.0 (lawful.obeys component held answer n.0 r n.1))
  obeys lawful (Own own) held answer outcome r n =
      subst (Obeys own.shape (own_uses own) held) (sym n.2) (Obeys-as Own own.shape (own_uses own) held n.0 (own_lawful.obeys own held answer n.0 r n.1))

  stays : Lawful rules → (component : Mixed K) (held : Held) (answer : Answer) (outcome : Outcome (Mixed K)) → MixedReady rules component held answer → MixedNext rules component held answer outcome → StaysReady (mixed_rules rules) outcome
  stays lawful (Other component) held answer outcome r n =
      subst (StaysReady (mixed_rules rules)) (sym n.2) (StaysReady-as Other rules (mixed_rules rules) (λ k held wish after. after) n.0 (lawful.stays_ready component held answer n.0 r n.1))
  stays lawful (Own own) held answer outcome r n =
      subst (StaysReady (mixed_rules rules)) (sym n.2) (StaysReady-as Own own_rules (mixed_rules rules) (λ k held wish after. after) n.0 (own_lawful.stays_ready own held answer n.0 r n.1))

  steady : Lawful rules → (component : Mixed K) (held : Held) (answer : Answer) (outcome : Outcome (Mixed K)) → MixedNext rules component held answer outcome → IsSteady (mixed_rules rules) component outcome
  steady lawful (Other component) held answer outcome n =
      let kept = lawful.steady component held answer n.0 n.1 in
      let after = component_after-as Other n.0 in
      subst (IsSteady (mixed_rules rules) (Other component)) (sym n.2) (record { shape = ap (mixed_shape rules) after ∙ kept.shape; outputs = ap (mixed_uses rules) after ∙ kept.outputs })
  steady lawful (Own own) held answer outcome n =
      let kept = own_lawful.steady own held answer n.0 n.1 in
      let after = component_after-as Own n.0 in
      subst (IsSteady (mixed_rules rules) (Own own)) (sym n.2) (record { shape = ap (mixed_shape rules) after ∙ kept.shape; outputs = ap (mixed_uses rules) after ∙ kept.outputs })

  some : Lawful rules → (component : Mixed K) (held : Held) (answer : Answer) → MixedReady rules component held answer → HasOutcome (mixed_rules rules) component held answer
  some lawful (Other component) held answer r = let o = lawful.has_outcome component held answer r in (outcome_as Other o.0, (o.0, o.1, refl))
  some lawful (Own own) held answer r = let o = own_lawful.has_outcome own held answer r in (outcome_as Own o.0, (o.0, o.1, refl))

  -- It keeps the laws of components.
  pub mixed_lawful : Lawful rules → Lawful (mixed_rules rules)
  mixed_lawful lawful = record { obeys = obeys lawful; stays_ready = stays lawful; steady = steady lawful; has_outcome = some lawful }

  -- A resume of another component, as one of these; and one of a component of the caller's own.
  pub other_resumes : (component component' : K) (old new : Holding) (answer : Answer) (result : Result Wish Stop) → Resumes rules.next component old answer result component' new
      → Resumes (MixedNext rules) (Other component) old answer result (Other component') new
  other_resumes component component' old new answer (Ok wish) r = ((Wishes component' (held_of new) wish, r.0, refl), r.1)
  other_resumes component component' old new answer (Err (stops.Fail cause)) r = ((Fails component' (held_of new) cause, r.0, refl), r.1)
  other_resumes component component' old new answer (Err stops.NoMemory) r = (ap {B = Mixed K} Other r.0, r.1, r.2)

  pub own_resumes : (own own' : OwnValue) (old new : Holding) (answer : Answer) (result : Result Wish Stop) → Resumes OwnNext own old answer result own' new
      → Resumes (MixedNext rules) (Own own) old answer result (Own own') new
  own_resumes own own' old new answer (Ok wish) r = ((Wishes own' (held_of new) wish, r.0, refl), r.1)
  own_resumes own own' old new answer (Err (stops.Fail cause)) r = ((Fails own' (held_of new) cause, r.0, refl), r.1)
  own_resumes own own' old new answer (Err stops.NoMemory) r = (ap {B = Mixed K} Own r.0, r.1, r.2)
