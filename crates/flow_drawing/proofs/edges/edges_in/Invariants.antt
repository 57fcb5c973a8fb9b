use Rattle.std.proofs.Common.{◌≡◌, ◌++◌, drop}
use Rattle.std.specs.List.{enumerate_from, flat_map}
use Rattle.flow_drawing.specs.Drawings.{edges_of}
use Rattle.flow_drawing.proofs.edges.edges_in.Given as goal

abbrev pub invariant-loop-number : goal.invariant-loop-number
invariant-loop-number l = l.edges ++ flat_map (edges_of l.remarks l.plan) (enumerate_from l.number (drop l.number l.connections)) ≡ flat_map (edges_of l.remarks l.plan) (enumerate_from 0 l.connections)
