use Rattle.std.proofs.Common.{◌++◌, List, ◌∙◌, ap}
use Rattle.flow_drawing.specs.declared.drawing.Given.{Given}
use Rattle.flow_drawing.specs.Drawings.{given_option}
use Rattle.flow_drawing.proofs.Each.{each-step, each-end}
use Rattle.flow_drawing.proofs.givens.put_options.Goals as goal

pub loop-place-preserved : goal.loop-place-preserved
loop-place-preserved c =
    each-step (given_option c.args.kinds.now c.args.number c.args.kind.now) c.args.options.now c.loop-place.place c.index-options-place.result c.loop-place.givens c.push.new.self _ c.loop-place-test.true c.index-options-place.is
    (c.in_ok-push.ensures.ok ∙ ap (λ (l : List Given). c.loop-place.givens ++ l) c.in_ok-given.ensures) c.loop-place.invariant

pub returns : goal.returns
returns c = each-end (given_option c.args.kinds.now c.args.number c.args.kind.now) c.args.options.now c.loop-place.place c.loop-place.givens _ c.loop-place-test.false c.loop-place.invariant
