use Rattle.std.proofs.Common.{◌≡◌, ◌++◌, ◌+◌}
use Rattle.flow_packet.specs.Hands.{kind_at, text_at}
use Rattle.flow_packet.specs.Held.{held_of}
use Rattle.flow_component.specs.Laws.{Wishes}
use Rattle.flow_component.specs.Ports.{receive_first}
use Rattle.flow_component.proofs.Dropping.{dropping, dropped-dropping}
use Rattle.flow_parts.specs.WriteLines.{rendered}
use Rattle.flow_parts.proofs.write_lines.WriteLines.write.Goals as goal

pub returns : goal.returns
returns c =
    let hands = c.args.hands.now in
    let id = c.args.id in
    let bytes : c.append.new.bytes.items ≡ c.args.self.now ++ rendered (kind_at hands.packets id) (text_at hands.packets id) =
    rw (← c.kind.ensures, ← c.text.ensures.text, ← c.self.view_is) c.in-Ok.ensures.ok in
    let after : c.drop_packet.new.self ≡ dropping hands id (hands.spare + 1) = c.drop_packet.ensures in
    (λ i. Wishes (bytes i) (held_of (after i)) receive_first, rw after (dropped-dropping hands id (hands.spare + 1) c.requires))
