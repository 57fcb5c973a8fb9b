use Rattle.std.proofs.Common.{◌≡◌, ◌+◌, refl}
use Rattle.flow_packet.specs.Hands.{IsAtRoot}
use Rattle.flow_component.proofs.Dropping.{dropping, dropped-dropping}
use Rattle.flow_streams.proofs.discard.DiscardComponent.resume.Goals as goal

pub returns-in-Got : goal.returns-in-Got
returns-in-Got c =
    let h = c.args.hands.now in
    let id = c.in-Got.packet in
    let at : IsAtRoot h.packets id = rw c.in-Got.is at c.requires.ready in
    let made : c.drop_packet.new.self ≡ dropping h id (h.spare + 1) = c.drop_packet.ensures in
    (rw (made, c.in-Got.is) refl, rw made (dropped-dropping h id (h.spare + 1) at))
