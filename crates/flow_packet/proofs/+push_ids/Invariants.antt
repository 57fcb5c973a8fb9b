use Rattle.std.proofs.Common.{◌≡◌, ◌+◌, ◌*◌, ◌++◌, length, drop}
use Rattle.flow_packet.specs.Tree.{ids, all_ids, chain_ids}
use Rattle.flow_packet.specs.View.{chains_in}
use Rattle.flow_packet.proofs.+push_ids.Given as goal

abbrev pub invariant-queue::push_all_ids-loop-packet : goal.invariant-queue::push_all_ids-loop-packet
invariant-queue::push_all_ids-loop-packet l = l.out.items ++ all_ids (drop l.packet-index l.packets) ≡ l.initial.out.items ++ all_ids l.packets

abbrev pub invariant-chain::push_chain_ids-loop-chain : goal.invariant-chain::push_chain_ids-loop-chain
invariant-chain::push_chain_ids-loop-chain l = l.out.items ++ chain_ids (chains_in (drop l.chain-index l.chains)) ≡ l.initial.out.items ++ chain_ids (chains_in l.chains)

abbrev pub decreases-packet::Packet::push_ids : goal.decreases-packet::Packet::push_ids
decreases-packet::Packet::push_ids l = 3 * length (ids l.self.now)

abbrev pub decreases-chain::push_chain_ids : goal.decreases-chain::push_chain_ids
decreases-chain::push_chain_ids l = 3 * length (chain_ids (chains_in l.chains.now)) + 2

abbrev pub decreases-queue::push_all_ids : goal.decreases-queue::push_all_ids
decreases-queue::push_all_ids l = 3 * length (all_ids l.packets.now) + 1
