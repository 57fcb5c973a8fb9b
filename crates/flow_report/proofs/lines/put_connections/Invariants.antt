use Rattle.std.proofs.Common.{◌≡◌, ◌++◌, take}
use Rattle.std.specs.List.{flat_map}
use Rattle.flow_report.specs.Text.{ended, connection_line}
use Rattle.flow_report.proofs.lines.put_connections.Given as goal

abbrev pub invariant-loop-connection : goal.invariant-loop-connection
invariant-loop-connection l = l.text.items ≡ l.initial.text.items ++ flat_map (λ x. ended (connection_line x)) (take l.connection-index l.connections)
