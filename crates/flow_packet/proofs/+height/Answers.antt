use Rattle.std.proofs.Common.{◌≡◌, ◌+◌, ◌<◌, ◌≤◌, length, arith}
use Rattle.flow_packet.specs.Tree.{ids, all_ids, chain_ids, chains_height}
use Rattle.flow_packet.specs.View.{chains_in}
use Rattle.flow_packet.proofs.Trees.{length-ids-tree_of, length-ids-at, length-all_ids-at}
use Rattle.flow_packet.proofs.+height.Goals as goal

pub packet::Packet::height-chains_height-requires : goal.packet::Packet::height-chains_height-requires
packet::Packet::height-chains_height-requires t c =
    let m : length (ids c.args.self.now) ≡ length (chain_ids (chains_in c.deref.result.now)) + 1 = rw (← c.self.view_is, c.deref.ensures.value) (length-ids-tree_of c.self.inside) in
    let low : chains_height (chains_in c.deref.result.now) < 16 = rw c.deref.ensures.value (omega (arith, c.self.invariant.low)) in
    (omega (arith, m, c.decreases), low)

pub chain::chains_height-packets_height-requires : goal.chain::chains_height-packets_height-requires
chain::chains_height-packets_height-requires t c =
    let within : c.loop-chain.chain-index < length c.args.chains.now = omega arith in
    let m : length (all_ids c.packets.result.now) ≤ length (chain_ids (chains_in c.args.chains.now)) =
    rw (c.packets.ensures, c.chain-item.is) (length-all_ids-at c.args.chains.now c.loop-chain.chain-index c.chain-item.result within) in
    (omega (arith, m, c.decreases), tt)

pub queue::packets_height-height-requires : goal.queue::packets_height-height-requires
queue::packets_height-height-requires t c =
    let within : c.loop-packet.packet-index < length c.args.packets.now = omega arith in
    let m : length (ids c.packet-item.result) ≤ length (all_ids c.args.packets.now) =
    rw c.packet-item.is (length-ids-at c.args.packets.now c.loop-packet.packet-index c.packet-item.result within) in
    (omega (arith, m, c.decreases), tt)
