use Rattle.std.proofs.Common.{◌≡◌, ◌++◌, drop}
use Rattle.flow_net.specs.Finishes.{rows_of}
use Rattle.flow_net.proofs.lay.rows.Given as goal

abbrev pub invariant-loop-port : goal.invariant-loop-port
invariant-loop-port l = l.rows.items ++ rows_of (drop l.port-index l.ports) l.process l.input ≡ rows_of l.ports l.process l.input
