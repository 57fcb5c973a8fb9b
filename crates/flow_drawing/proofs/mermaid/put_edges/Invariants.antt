use Rattle.std.proofs.Common.{◌≡◌, ◌++◌, take}
use Rattle.std.specs.List.{flat_map}
use Rattle.flow_drawing.specs.Spelling.{mermaid_edge}
use Rattle.flow_drawing.proofs.mermaid.put_edges.Given as goal

abbrev pub invariant-loop-edge : goal.invariant-loop-edge
invariant-loop-edge l = l.out.items ≡ l.initial.out.items ++ flat_map mermaid_edge (take l.edge-index l.edges)
