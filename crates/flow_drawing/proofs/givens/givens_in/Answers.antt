use Rattle.flow_drawing.specs.Drawings.{givens_of}
use Rattle.flow_drawing.proofs.Each.{each-step, each-end}
use Rattle.flow_drawing.proofs.givens.givens_in.Goals as goal

pub loop-number-preserved : goal.loop-number-preserved
loop-number-preserved c =
    each-step (givens_of c.args.kinds.now c.args.plan.now) c.args.processes.now c.loop-number.number c.index-processes-number.result c.loop-number.givens c.put_givens.new.givens _
    c.loop-number-test.true c.index-processes-number.is c.in_ok-put_givens.ensures c.loop-number.invariant

pub returns : goal.returns
returns c = each-end (givens_of c.args.kinds.now c.args.plan.now) c.args.processes.now c.loop-number.number c.loop-number.givens _ c.loop-number-test.false c.loop-number.invariant
