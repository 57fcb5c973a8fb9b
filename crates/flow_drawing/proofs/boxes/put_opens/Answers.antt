use Rattle.std.proofs.Common.{◌++◌, ◌∷◌, [], List, ℕ, ◌∙◌, ap}
use Rattle.flow_drawing.specs.declared.drawing.Row.TheVariants.{Opens}
use Rattle.flow_drawing.specs.Drawings.{begins}
use Rattle.flow_drawing.proofs.Each.{each-step, each-end}
use Rattle.flow_drawing.proofs.boxes.put_opens.Goals as goal

pub loop-depth-preserved : goal.loop-depth-preserved
loop-depth-preserved c =
    each-step (begins c.args.process) c.args.boxes.now c.loop-depth.depth c.index-boxes-depth.result c.loop-depth.rows c.push.new.self _ c.loop-depth-test.true c.index-boxes-depth.is
    (c.in_ok-push.ensures.ok ∙ ap (λ (name : List ℕ). c.loop-depth.rows ++ Opens c.args.process c.loop-depth.depth name ∷ []) c.in_ok-name.ensures) c.loop-depth.invariant

pub returns : goal.returns
returns c = each-end (begins c.args.process) c.args.boxes.now c.loop-depth.depth c.loop-depth.rows _ c.loop-depth-test.false c.loop-depth.invariant
