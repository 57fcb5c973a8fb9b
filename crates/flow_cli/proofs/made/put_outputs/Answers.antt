use Rattle.std.proofs.Common.{◌<◌, length, ap, arith, add-one}
use Rattle.flow_cli.specs.Leaves.{bytes_at}
use Rattle.flow_cli.proofs.Lining.{one-line-more}
use Rattle.flow_cli.proofs.made.put_outputs.Goals as goal

pub loop-process-preserved : goal.loop-process-preserved
loop-process-preserved g c =
    let ps = c.args.ran.now.plan.processes in
    let k = c.loop-process.process in
    let same = ap length c.processes-process-end.ensures.processes in
    let lt : k < length ps = omega arith in
    rw add-one (one-line-more (bytes_at c.args.ran.now.net.bodies) ps k c.args.text.now.items c.loop-process.text.items c.put_output.new.text.items lt c.in_ok-put_output.ensures c.loop-process.invariant)
