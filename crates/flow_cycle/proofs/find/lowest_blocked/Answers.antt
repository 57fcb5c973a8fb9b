use Rattle.std.proofs.Common.{◌<◌, ◌≤◌, sym, length, arith}
use Rattle.flow_cycle.specs.Nets.{is_blocked}
use Rattle.flow_cycle.proofs.Steps.{position-here, position-end, any-next}
use Rattle.flow_cycle.proofs.find.lowest_blocked.Goals as goal

pub returns-then-is_blocked : goal.returns-then-is_blocked
returns-then-is_blocked g c =
    let below : c.loop-process.process < length c.args.net.now.bodies = omega arith in
    sym (position-here (is_blocked c.args.net.now) c.args.net.now.bodies c.loop-process.process c.is_blocked.result below c.is_blocked.ensures c.if-is_blocked.true c.loop-process.invariant)

pub loop-process-preserved : goal.loop-process-preserved
loop-process-preserved g c =
    let below : c.loop-process.process < length c.args.net.now.bodies = omega arith in
    any-next (is_blocked c.args.net.now) c.args.net.now.bodies c.loop-process.process c.is_blocked.result below c.is_blocked.ensures c.if-is_blocked.false c.loop-process.invariant

pub returns : goal.returns
returns g c =
    let most : length c.args.net.now.bodies ≤ c.loop-process.process = omega arith in
    sym (position-end (is_blocked c.args.net.now) c.args.net.now.bodies c.loop-process.process most c.loop-process.invariant)
