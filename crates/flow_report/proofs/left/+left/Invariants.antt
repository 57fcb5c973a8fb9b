use Rattle.std.proofs.Common.{◌≡◌, ◌+◌, ◌*◌, ◌++◌, length, take}
use Rattle.std.specs.List.{flat_map}
use Rattle.flow_packet.specs.Tree.{ids, id_of, chains_of}
use Rattle.flow_report.specs.declared.report.Place.TheVariants.{InChain}
use Rattle.flow_report.specs.Left.{left_at}
use Rattle.flow_report.proofs.LeftLists.{in_chain}
use Rattle.flow_report.proofs.left.+left.Given as goal

abbrev pub invariant-push_packet-loop-at : goal.invariant-push_packet-loop-at
invariant-push_packet-loop-at l = l.left ≡ l.initial.left ++ flat_map (in_chain (id_of l.packet)) (take l.at (chains_of l.packet))

abbrev pub invariant-push_chain-loop-child : goal.invariant-push_chain-loop-child
invariant-push_chain-loop-child l = l.left ≡ l.initial.left ++ left_at (InChain l.name l.of) (take l.child-index l.children)

abbrev pub decreases-push_packet : goal.decreases-push_packet
decreases-push_packet l = 2 * length (ids l.packet.now) + 1

abbrev pub decreases-push_chain : goal.decreases-push_chain
decreases-push_chain l = 2 * length (ids l.packet.now)
