use Rattle.std.proofs.Common.{◌≡◌, ◌++◌, ◌+◌, ap, ◌∙◌}
use Rattle.flow_packet.specs.Hands.{kind_at, text_at}
use Rattle.flow_packet.specs.Held.{held_of}
use Rattle.flow_component.specs.Laws.{Wishes}
use Rattle.flow_component.specs.Ports.{receive_first}
use Rattle.flow_component.proofs.Dropping.{dropping, dropped-dropping}
use Rattle.flow_parts.specs.WriteLines.{rendered}
use Rattle.flow_pieces.specs.WritePieces.{Gathered, with_gone}
use Rattle.flow_pieces.proofs.write_pieces.WritePieces.write.Goals as goal

pub returns : goal.returns
returns c =
    let hands = c.args.hands.now in
    let id = c.args.id in
    let gone = c.self.inside.gone.bytes in
    let has = c.self.inside.bytes.items in
    let line = rendered (kind_at hands.packets id) (text_at hands.packets id) in
    let bytes : c.append.new.bytes.items ≡ has ++ line = rw (← c.kind.ensures, ← c.text.ensures.text) c.in-Ok.ensures.ok in
    let all : with_gone gone c.append.new.bytes.items ≡ with_gone c.args.self.now.gone (c.args.self.now.has ++ line) =
    ap (with_gone gone) bytes ∙ ap (λ (g : Gathered). with_gone g.gone (g.has ++ line)) c.self.view_is in
    let after : c.drop_packet.new.self ≡ dropping hands id (hands.spare + 1) = c.drop_packet.ensures in
    (λ i. Wishes (all i) (held_of (after i)) receive_first, rw after (dropped-dropping hands id (hands.spare + 1) c.requires))
