use Rattle.std.proofs.Common.{length, length-set, List, ap, ◌∙◌, arith, slice_get}
use Rattle.std.proofs.lemmas.Option.{slice_get_within}
use Rattle.flow_model.specs.Stages.{IsThoughtStage}
use Rattle.flow_model.proofs.Lists.{slice_get-set_same}
use Rattle.flow_machine.specs.Values.{BodyValue}
use Rattle.flow_machine.proofs.NetTurns.{some_if, set-thought}
use Rattle.flow_catalogue.specs.declared.standard.Std.{Std}
use Rattle.flow_trials.proofs.circle.block.Goals as goal

pub block-requires-clause-in_range : goal.block-requires-clause-in_range
block-requires-clause-in_range g c =
    let think = c.in-Wishing.ensures.thinks in
    omega (arith, slice_get_within c.args.net.now.bodies c.args.process think.before think.there, ap (λ (bs : List (BodyValue Std)). length bs) think.bodies, length-set c.args.net.now.bodies c.args.process think.after)

pub block-requires-clause-thought : goal.block-requires-clause-thought
block-requires-clause-thought g c =
    let think = c.in-Wishing.ensures.thinks in
    some_if (slice_get c.think.new.self.bodies c.args.process) (λ (b : BodyValue Std). IsThoughtStage b.process.stage) think.after (ap (λ (bs : List (BodyValue Std)). slice_get bs c.args.process) think.bodies ∙ slice_get-set_same c.args.net.now.bodies c.args.process think.before think.after think.there) (set-thought think.after think.after.process.stage think.thinks.1)
