use Rattle.std.proofs.Common.{◌≡◌, ◌+◌, ◌-◌, ◌*◌, ◌^◌, ◌≤◌, length, min, map}
use Rattle.flow_packet.specs.Tree.{ids, all_ids, chain_ids}
use Rattle.flow_packet.specs.View.{chain_of}
use Rattle.flow_packet.proofs.+spend.Given as goal

abbrev pub invariant-chain::spend_chains-loop-chain : goal.invariant-chain::spend_chains-loop-chain
invariant-chain::spend_chains-loop-chain l =
    (length (chain_ids (map chain_of l.chains.items)) ≤ length (chain_ids (map chain_of l.initial.chains.items)))
    × (min (l.count + length (chain_ids (map chain_of l.chains.items))) (2 ^ 64 - 1) ≡ min (l.initial.count + length (chain_ids (map chain_of l.initial.chains.items))) (2 ^ 64 - 1))
    × (l.count ≤ 2 ^ 64 - 1)

abbrev pub decreases-chain::spend_chains-loop-chain : goal.decreases-chain::spend_chains-loop-chain
decreases-chain::spend_chains-loop-chain l = goal.left-chain::spend_chains-loop-chain l

abbrev pub invariant-queue::spend_packets-loop-packet : goal.invariant-queue::spend_packets-loop-packet
invariant-queue::spend_packets-loop-packet l =
    (length (all_ids l.packets.items) ≤ length (all_ids l.initial.packets.items))
    × (min (l.count + length (all_ids l.packets.items)) (2 ^ 64 - 1) ≡ min (l.initial.count + length (all_ids l.initial.packets.items)) (2 ^ 64 - 1))
    × (l.count ≤ 2 ^ 64 - 1)

abbrev pub decreases-queue::spend_packets-loop-packet : goal.decreases-queue::spend_packets-loop-packet
decreases-queue::spend_packets-loop-packet l = goal.left-queue::spend_packets-loop-packet l

abbrev pub decreases-packet::Packet::spend : goal.decreases-packet::Packet::spend
decreases-packet::Packet::spend l = 4 * length (ids l.self)

abbrev pub decreases-chain::spend_chains : goal.decreases-chain::spend_chains
decreases-chain::spend_chains l = 4 * length (chain_ids (map chain_of l.chains.items)) + 3

abbrev pub decreases-queue::Queue::spend : goal.decreases-queue::Queue::spend
decreases-queue::Queue::spend l = 4 * length (all_ids l.self) + 2

abbrev pub decreases-queue::spend_packets : goal.decreases-queue::spend_packets
decreases-queue::spend_packets l = 4 * length (all_ids l.packets.items) + 1
