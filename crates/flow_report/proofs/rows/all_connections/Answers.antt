use Rattle.std.proofs.Common.{[], add-one}
use Rattle.flow_report.specs.Of.{connection_told, transit_told}
use Rattle.flow_report.proofs.Tellings.{told-step}
use Rattle.flow_report.proofs.rows.all_connections.Goals as goal

pub loop-connection-preserved : goal.loop-connection-preserved
loop-connection-preserved g c = record {
  lines = rw add-one (told-step (connection_told c.args.plan.now) c.args.net.now.channels c.loop-connection.connection c.channel.result.now []
      c.loop-connection.lines c.add_connection.new.lines c.channel.ensures c.loop-connection.invariant.lines c.in_ok-add_connection.ensures.lines);
  left = rw add-one (told-step transit_told c.args.net.now.channels c.loop-connection.connection c.channel.result.now c.args.left.now
      c.loop-connection.left c.add_connection.new.left c.channel.ensures
      c.loop-connection.invariant.left c.in_ok-add_connection.ensures.left);
}
