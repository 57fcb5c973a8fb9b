use Rattle.std.proofs.Common.{◌≡◌, ◌+◌, length, [], map, arith, sym, ◌∙◌}
use Rattle.std.proofs.lemmas.List.{nil_from_length}
use Rattle.flow_packet.specs.Tree.{ids, chain_ids}
use Rattle.flow_packet.specs.View.{chain_of}
use Rattle.flow_packet.proofs.Trees.{length-ids-tree_of}
use Rattle.flow_packet.proofs.+spend.Goals as goal

pub packet::Packet::spend-returns : goal.packet::Packet::spend-returns
packet::Packet::spend-returns t c = rw (← c.self.view_is) (omega (arith, length-ids-tree_of c.self.inside, c.spend_chains.ensures, c.saturating_add.ensures))

pub packet::Packet::spend-spend_chains-requires : goal.packet::Packet::spend-spend_chains-requires
packet::Packet::spend-spend_chains-requires t c =
    let m : length (ids c.args.self) ≡ length (chain_ids (map chain_of c.self.inside.chains.items)) + 1 = rw (← c.self.view_is) (length-ids-tree_of c.self.inside) in
    (omega (arith, m, c.decreases), tt)

pub queue::spend_packets-returns : goal.queue::spend_packets-returns
queue::spend_packets-returns t c =
    let e : c.loop-packet.packets.items ≡ [] = nil_from_length _ (sym c.loop-packet.packets.ok.0 ∙ c.in_default.ensures.cases.0) in
    let i = rw e at c.loop-packet.invariant.1 in
    omega arith

pub chain::spend_chains-returns : goal.chain::spend_chains-returns
chain::spend_chains-returns t c =
    let e : c.loop-chain.chains.items ≡ [] = nil_from_length _ (sym c.loop-chain.chains.ok.0 ∙ c.in_default.ensures.cases.0) in
    let i = rw e at c.loop-chain.invariant.1 in
    omega arith
