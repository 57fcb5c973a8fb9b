use Rattle.std.proofs.Common.{◌<◌, length, arith}
use Rattle.flow_report.specs.Text.{ended, connection_line}
use Rattle.flow_report.proofs.Appending.{piece-more}
use Rattle.flow_report.proofs.lines.put_connections.Goals as goal

pub loop-connection-preserved : goal.loop-connection-preserved
loop-connection-preserved c =
    piece-more (λ x. ended (connection_line x)) c.args.connections.now c.loop-connection.connection-index c.connection-item.result
    c.args.text.now.items c.loop-connection.text.items c.put_connection.new.text.items
    (let below : c.loop-connection.connection-index < length c.args.connections.now = omega arith in below)
    c.connection-item.is c.loop-connection.invariant c.in_ok-put_connection.ensures
