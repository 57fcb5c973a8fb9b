use Rattle.std.proofs.Common.{◌≡◌, ◌-◌, ◌∙◌, [], ◌∷◌, ◌++◌, length}
use Rattle.flow_packet.specs.Tree.{all_ids}
use Rattle.flow_report.specs.declared.report.Place.TheVariants.{InConnection}
use Rattle.flow_report.proofs.Counts.{left-count}
use Rattle.flow_report.proofs.rows.add_connection.Goals as goal

pub returns-clause-lines : goal.returns-clause-lines
returns-clause-lines c =
    let left : c.len.result - c.len-before.result ≡ length (all_ids c.args.channel.now.packets) =
    left-count (InConnection c.args.connection) c.packets.result.now.items c.args.channel.now.packets c.args.left.now c.push_transit.new.left c.len.result c.len-before.result
    c.len-before.ensures c.len.ensures c.in_ok-push_transit.ensures c.packets.ensures in
    c.in_ok-push.ensures.ok
    ∙ (λ i. c.args.lines.now ++ record { name = c.in_ok-connection_text.ensures i; capacity = c.capacity.ensures i; puts = c.puts.ensures i; takes = c.takes.ensures i; left = left i } ∷ [])
