use Rattle.std.proofs.Common.{◌≡◌, map, take}
use Rattle.flow_packet.specs.Tree.{id_of}
use Rattle.flow_own.proofs.play.root_ids.Given as goal

abbrev pub invariant-loop-packet : goal.invariant-loop-packet
invariant-loop-packet l = l.ids.items ≡ map id_of (take l.packet-index l.packet-items)
