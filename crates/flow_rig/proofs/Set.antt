-- A process that thought stands there still, as its thought left it.
use Rattle.std.proofs.Common.{◌≡◌, ℕ, ◌<◌, List, length, length-set, Some, ap, ◌∙◌, arith, slice_get}
use Rattle.std.proofs.lemmas.Option.{slice_get_within}
use Rattle.flow_component.specs.Laws.{Rules}
use Rattle.flow_model.proofs.Lists.{slice_get-set_same}
use Rattle.flow_machine.specs.Values.{BodyValue, NetValue}
use Rattle.flow_machine.specs.Thoughts.{IsSet}
use Rattle.flow_machine.specs.NetSteps.{ThinksNet, IsSetIn}
use Rattle.flow_machine.specs.declared.answers.Thought.TheVariants.{Wishing}
use Rattle.flow_machine.proofs.NetTurns.{some_if}

module _ {K : Type 0} (rules : Rules K) (old : NetValue K) (p : ℕ) (new : NetValue K) (think : ThinksNet rules old p Wishing new) where
  pub thought-there : slice_get new.bodies p ≡ Some think.after
  thought-there = ap (λ (bs : List (BodyValue K)). slice_get bs p) think.bodies ∙ slice_get-set_same old.bodies p think.before think.after think.there

  pub thought-within : p < length new.bodies
  thought-within = omega (arith, slice_get_within old.bodies p think.before think.there, ap (λ (bs : List (BodyValue K)). length bs) think.bodies, length-set old.bodies p think.after)

  pub thought-set : IsSetIn new p
  thought-set = some_if (slice_get new.bodies p) (λ (b : BodyValue K). IsSet b) think.after thought-there think.thinks.1
