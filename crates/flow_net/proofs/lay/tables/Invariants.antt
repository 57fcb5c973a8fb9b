use Rattle.std.proofs.Common.{◌≡◌, map, take}
use Rattle.flow_net.specs.Finishes.{table_of}
use Rattle.flow_net.proofs.lay.tables.Given as goal

abbrev pub invariant-loop-begun : goal.invariant-loop-begun
invariant-loop-begun l = l.tables.items ≡ map (table_of l.ports) (take l.begun-index l.processes)
