use Rattle.flow_drawing.specs.Folding.{folded_row}
use Rattle.flow_drawing.proofs.Each.{each-step, each-end}
use Rattle.flow_drawing.proofs.folding.folded_rows.Goals as goal

pub loop-number-preserved : goal.loop-number-preserved
loop-number-preserved c =
    each-step (folded_row c.args.kinds.now c.args.remarks.now c.args.processes.now) c.args.processes.now c.loop-number.number c.index-processes-number.result c.loop-number.rows c.put_row.new.rows _
    c.loop-number-test.true c.index-processes-number.is c.in_ok-put_row.ensures c.loop-number.invariant

pub returns : goal.returns
returns c =
    each-end (folded_row c.args.kinds.now c.args.remarks.now c.args.processes.now) c.args.processes.now c.loop-number.number c.loop-number.rows _ c.loop-number-test.false c.loop-number.invariant
