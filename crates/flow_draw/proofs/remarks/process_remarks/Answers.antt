use Rattle.std.proofs.Common.{add-one}
use Rattle.flow_draw.proofs.Said.{process-step}
use Rattle.flow_draw.proofs.remarks.process_remarks.Goals as goal

pub loop-process-preserved : goal.loop-process-preserved
loop-process-preserved g c =
    rw add-one (process-step c.args.plan.now c.args.cycle.now c.args.net.now c.loop-process.process c.body.result.now c.status-status.result
    c.block_of-block.result c.in_ok-remark.remark c.loop-process.remarks c.push.new.self c.body.ensures c.status-status.ensures c.block_of-block.ensures
    c.in_ok-remark.ensures c.loop-process.invariant c.in_ok-push.ensures.ok)
