use Rattle.std.proofs.Common.{◌<◌, ◌≤◌, length, arith, add-one}
use Rattle.flow_packet.specs.Tree.{ids, id_of, chains_of}
use Rattle.flow_report.proofs.LeftLists.{child-smaller, chain-more, packet-told, chain-whole}
use Rattle.flow_report.proofs.left.+left.Goals as goal

pub push_chain-push_packet-requires : goal.push_chain-push_packet-requires
push_chain-push_packet-requires t c =
    let within : c.loop-child.child-index < length c.chain-children.result.now = omega arith in
    let m : length (ids c.child-item.result) < length (ids c.args.packet.now) =
    rw c.child-item.is (child-smaller c.args.packet.now c.chain_name-name.result.now c.chain-children.result.now c.loop-child.child-index c.child-item.result c.chain-children.ensures within) in
    (omega (arith, m, c.decreases), tt)

pub push_chain-returns : goal.push_chain-returns
push_chain-returns t c =
    let whole : length c.chain-children.result.now ≤ c.loop-child.child-index = omega arith in
    chain-whole c.id-of.result c.args.packet.now c.args.at c.loop-child.child-index c.chain_name-name.result.now c.chain-children.result.now c.args.left.now c.loop-child.left
    c.id-of.ensures c.requires c.chain_name-name.ensures.name c.chain_name-name.ensures.only c.chain-children.ensures whole c.loop-child.invariant

pub push_packet-loop-at-preserved : goal.push_packet-loop-at-preserved
push_packet-loop-at-preserved t c =
    let below : c.loop-at.at < length (chains_of c.args.packet.now) = omega (arith, c.chain_count-at-end.ensures.count) in
    rw add-one (chain-more (id_of c.args.packet.now) (chains_of c.args.packet.now) c.loop-at.at c.push.new.self c.loop-at.left c.push_chain.new.left below c.loop-at.invariant c.in_ok-push_chain.ensures)

pub push_packet-returns : goal.push_packet-returns
push_packet-returns t c =
    let whole : length (chains_of c.args.packet.now) ≤ c.loop-at.at = omega (arith, c.chain_count-at-end.ensures.count) in
    packet-told c.args.place c.args.packet.now c.id-id.result c.loop-at.at c.args.left.now c.push.new.self c.loop-at.left c.id-id.ensures c.in_ok-push.ensures.ok whole c.loop-at.invariant
