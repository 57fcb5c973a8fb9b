use Rattle.std.proofs.Common.{rules, ◌+◌}
use Rattle.flow_own.proofs.Drops.{drops-next}
use Rattle.flow_own.proofs.acts.drop_all.Goals as goal

pub loop-id-preserved : goal.loop-id-preserved
loop-id-preserved c =
    drops-next c.args.hands.now c.loop-id.hands c.drop_packet.new.self c.args.dropped.now c.loop-id.id-index c.id-item.result (c.loop-id.hands.spare + 1) c.loop-id-test.true c.loop-id.invariant (search rules)
