use Rattle.std.proofs.Common.{◌++◌, ◌∷◌, [], ℕ, List, replicate, ◌∙◌, ap, arith}
use mathlib.Core.Path.{ap₂}
use Rattle.flow_drawing.specs.declared.drawing.Node.{Node}
use Rattle.flow_drawing.specs.declared.drawing.Row.TheVariants.{Closes, Shows}
use Rattle.flow_drawing.specs.Drawings.{boxes_of, steps}
use Rattle.flow_drawing.proofs.Opening.{rows-step, rows-end}
use Rattle.flow_drawing.proofs.rows.rows_of.Goals as goal

pub loop-number-preserved : goal.loop-number-preserved
loop-number-preserved c =
    rows-step c.args.kinds.now c.args.remarks.now c.args.processes.now c.loop-number.opened.items _ c.loop-number.number c.index-processes-number.result c.loop-number.rows c.put_steps.new.rows c.push.new.self _
    c.loop-number-test.true c.index-processes-number.is
    (c.in_ok-boxes.ensures ∙ ap boxes_of c.as_slice.ensures)
    (c.in_ok-put_steps.ensures ∙ ap₂ (λ (a b : List (List ℕ)). c.loop-number.rows ++ steps a b c.loop-number.number) c.as_slice-in-loop-number.ensures.value c.as_slice-in-loop-number-2.ensures.value)
    (c.in_ok-push.ensures.ok ∙ ap (λ (node : Node). c.put_steps.new.rows ++ Shows node ∷ []) c.in_ok-node.ensures)
    c.loop-number.invariant

pub returns : goal.returns
returns c =
    rows-end c.args.kinds.now c.args.remarks.now c.args.processes.now c.loop-number.opened.items c.loop-number.number c.loop-number.rows c.put_closes.new.rows _ c.loop-number-test.false c.loop-number.invariant
    (c.in_ok-put_closes.ensures ∙ ap (λ n. c.loop-number.rows ++ replicate n Closes) (omega (arith, c.len.ensures, c.loop-number.opened.ok.0)))
