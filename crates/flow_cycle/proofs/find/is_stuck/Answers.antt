use Rattle.std.proofs.Common.{◌<◌, sym, ◌∙◌, ◌||◌, length, arith}
use Rattle.flow_model.specs.Stages.{has_ended}
use Rattle.flow_cycle.specs.Nets.{is_blocked}
use Rattle.flow_cycle.proofs.Steps.{all-next, all-not}
use Rattle.flow_cycle.proofs.find.is_stuck.Goals as goal

pub returns-then-not-has_ended_or_is_blocked : goal.returns-then-not-has_ended_or_is_blocked
returns-then-not-has_ended_or_is_blocked g c =
    let below : c.loop-process.process < length c.args.net.now.bodies = omega arith in
    sym (c.loop-process.invariant ∙ all-not (λ b. has_ended b.process.stage || is_blocked c.args.net.now b) c.args.net.now.bodies c.loop-process.process c.has_ended_or_is_blocked.result below c.has_ended_or_is_blocked.ensures c.if-not-has_ended_or_is_blocked.true)

pub loop-process-preserved : goal.loop-process-preserved
loop-process-preserved g c =
    let below : c.loop-process.process < length c.args.net.now.bodies = omega arith in
    c.loop-process.invariant ∙ all-next (λ b. has_ended b.process.stage || is_blocked c.args.net.now b) c.args.net.now.bodies c.loop-process.process c.has_ended_or_is_blocked.result below c.has_ended_or_is_blocked.ensures c.if-not-has_ended_or_is_blocked.false
