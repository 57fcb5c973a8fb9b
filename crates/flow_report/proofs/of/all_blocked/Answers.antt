use Rattle.std.proofs.Common.{◌<◌, length, arith, add-one}
use Rattle.flow_report.proofs.Tellings.{block-step}
use Rattle.flow_report.proofs.of.all_blocked.Goals as goal

pub loop-process-preserved : goal.loop-process-preserved
loop-process-preserved g c =
    let below : c.loop-process.process < length c.args.net.now.bodies = omega arith in
    rw add-one (block-step c.args.plan.now c.args.net.now c.loop-process.process c.block_of-block.result c.loop-process.blocked c.add_blocked.new.blocked
    below c.block_of-block.ensures c.loop-process.invariant c.in_ok-add_blocked.ensures)
