use Rattle.std.proofs.Common.{◌≡◌, take}
use Rattle.std.specs.List.{flat_map}
use Rattle.flow_drawing.specs.Folding.{folded_edge}
use Rattle.flow_drawing.proofs.folding.folded_edges.Given as goal

abbrev pub invariant-loop-edge : goal.invariant-loop-edge
invariant-loop-edge l = l.folded ≡ flat_map (folded_edge l.processes) (take l.edge-index l.edges)
