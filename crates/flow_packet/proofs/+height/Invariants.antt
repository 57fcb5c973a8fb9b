use Rattle.std.proofs.Common.{◌≡◌, ◌+◌, ◌*◌, length, max, drop}
use Rattle.flow_packet.specs.Tree.{ids, all_ids, chain_ids, greatest, chains_height}
use Rattle.flow_packet.specs.View.{chains_in}
use Rattle.flow_packet.proofs.+height.Given as goal

abbrev pub invariant-chain::chains_height-loop-chain : goal.invariant-chain::chains_height-loop-chain
invariant-chain::chains_height-loop-chain l = max l.most (chains_height (chains_in (drop l.chain-index l.chains))) ≡ chains_height (chains_in l.chains)

abbrev pub invariant-queue::packets_height-loop-packet : goal.invariant-queue::packets_height-loop-packet
invariant-queue::packets_height-loop-packet l = max l.most (greatest (drop l.packet-index l.packets)) ≡ greatest l.packets

abbrev pub decreases-packet::Packet::height : goal.decreases-packet::Packet::height
decreases-packet::Packet::height l = 3 * length (ids l.self.now)

abbrev pub decreases-chain::chains_height : goal.decreases-chain::chains_height
decreases-chain::chains_height l = 3 * length (chain_ids (chains_in l.chains.now)) + 2

abbrev pub decreases-queue::packets_height : goal.decreases-queue::packets_height
decreases-queue::packets_height l = 3 * length (all_ids l.packets.now) + 1
