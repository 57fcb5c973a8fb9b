use Rattle.std.proofs.Common.{[], sym, refl}
use Rattle.flow_packet.specs.declared.packet.Kind.TheVariants.{Normal}
use Rattle.flow_packet.specs.Tree.{packet_of}
use Rattle.flow_packet.proofs.Places.{IsPlace-Some}
use Rattle.flow_part_trials.proofs.hands.is_at_root.Goals as goal

pub returns : goal.returns
returns g c =
    let place = IsPlace-Some c.args.hands.now.packets c.args.id _ (sym c.in-Some.ensures) in
    rw (place.found (packet_of 0 Normal [] [])) refl
