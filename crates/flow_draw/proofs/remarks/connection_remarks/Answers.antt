use Rattle.std.proofs.Common.{add-one}
use Rattle.flow_draw.proofs.Said.{channel-step}
use Rattle.flow_draw.proofs.remarks.connection_remarks.Goals as goal

pub loop-connection-preserved : goal.loop-connection-preserved
loop-connection-preserved g c =
    rw add-one (channel-step c.args.cycle.now c.args.net.now.channels c.loop-connection.connection c.channel-channel.result.now c.level.result c.capacity.result
    c.in_ok-remark.remark c.loop-connection.remarks c.push.new.self c.channel-channel.ensures c.level.ensures c.capacity.ensures
    c.in_ok-remark.ensures c.loop-connection.invariant c.in_ok-push.ensures.ok)
