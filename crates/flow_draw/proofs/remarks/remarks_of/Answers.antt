use Rattle.flow_draw.proofs.Said.{tells-by}
use Rattle.flow_draw.proofs.remarks.remarks_of.Goals as goal

pub returns : goal.returns
returns g c = λ s reached.
    tells-by g.K.Component.rules c.args.plan.now c.args.net.now c.in_ok-cycle.cycle.items c.deref.result.now c.deref-2.result.now s
    c.in_ok-process_remarks.field-0 c.in_ok-connection_remarks.field-0
    c.deref.ensures.value c.deref-2.ensures.value c.in_ok-process_remarks.ensures c.in_ok-connection_remarks.ensures reached (c.in_ok-cycle.ensures s reached)
