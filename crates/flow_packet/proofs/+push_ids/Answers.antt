use Rattle.std.proofs.Common.{◌≡◌, ◌+◌, ◌<◌, ◌≤◌, length, ◌++◌, arith, refl, append_assoc}
use Rattle.flow_packet.specs.Tree.{ids, all_ids, chain_ids}
use Rattle.flow_packet.specs.View.{chains_in}
use Rattle.flow_packet.proofs.Trees.{length-ids-tree_of, length-ids-at, length-all_ids-at, ids-tree_of}
use Rattle.flow_packet.proofs.+push_ids.Goals as goal

pub packet::Packet::push_ids-push_chain_ids-requires : goal.packet::Packet::push_ids-push_chain_ids-requires
packet::Packet::push_ids-push_chain_ids-requires t c =
    let m : length (ids c.args.self.now) ≡ length (chain_ids (chains_in c.deref.result.now)) + 1 = rw (← c.self.view_is, c.deref.ensures.value) (length-ids-tree_of c.self.inside) in
    (omega (arith, m, c.decreases), tt)

pub chain::push_chain_ids-push_all_ids-requires : goal.chain::push_chain_ids-push_all_ids-requires
chain::push_chain_ids-push_all_ids-requires t c =
    let within : c.loop-chain.chain-index < length c.args.chains.now = omega arith in
    let m : length (all_ids c.packets.result.now) ≤ length (chain_ids (chains_in c.args.chains.now)) =
    rw (c.packets.ensures, c.chain-item.is) (length-all_ids-at c.args.chains.now c.loop-chain.chain-index c.chain-item.result within) in
    (omega (arith, m, c.decreases), tt)

pub queue::push_all_ids-push_ids-requires : goal.queue::push_all_ids-push_ids-requires
queue::push_all_ids-push_ids-requires t c =
    let within : c.loop-packet.packet-index < length c.args.packets.now = omega arith in
    let m : length (ids c.packet-item.result) ≤ length (all_ids c.args.packets.now) =
    rw c.packet-item.is (length-ids-at c.args.packets.now c.loop-packet.packet-index c.packet-item.result within) in
    (omega (arith, m, c.decreases), tt)

pub packet::Packet::push_ids-returns : goal.packet::Packet::push_ids-returns
packet::Packet::push_ids-returns t c =
    let e : c.push.new.self.items ++ chain_ids (chains_in c.deref.result.now) ≡ c.args.out.now.items ++ ids c.args.self.now =
    rw (c.in_ok-push.ensures.items, c.deref.ensures.value, ← c.self.view_is, ids-tree_of, append_assoc) refl in
    rw (← e) c.push_chain_ids.ensures
