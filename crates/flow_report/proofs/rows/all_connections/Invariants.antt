use Rattle.std.proofs.Common.{◌≡◌, ◌++◌, take}
use Rattle.flow_report.specs.Of.{told_from, connection_told, transit_told}
use Rattle.flow_report.proofs.rows.all_connections.Given as goal

abbrev pub invariant-loop-connection : goal.invariant-loop-connection
invariant-loop-connection g l = record {
  lines : l.lines ≡ told_from (connection_told l.plan) 0 (take l.connection l.net.channels);
  left : l.left ≡ l.initial.left ++ told_from transit_told 0 (take l.connection l.net.channels);
}
