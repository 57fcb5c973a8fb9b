use Rattle.std.proofs.Common.{◌≡◌, ◌++◌, take}
use Rattle.std.specs.List.{flat_map}
use Rattle.flow_drawing.specs.Drawings.{edge_of}
use Rattle.flow_drawing.proofs.edges.put_senders.Given as goal

abbrev pub invariant-loop-sender : goal.invariant-loop-sender
invariant-loop-sender l = l.edges ≡ l.initial.edges ++ flat_map (edge_of l.remarks l.plan l.number l.connection) (take l.sender-index l.senders)
