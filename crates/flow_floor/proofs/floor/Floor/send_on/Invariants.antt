use Rattle.std.specs.Prelude.{unwrap_or}
use Rattle.flow_machine.specs.Nets.{packet_wished}
use Rattle.flow_floor.specs.Ends.{capacities_of}
use Rattle.flow_floor.specs.Parcels.{no_packet}
use Rattle.flow_floor.proofs.floor.Floor.send_on.Given as goal

-- the connection of this capacity, and the packet of the wish
abbrev pub ghosts-place-S-Spot : goal.ghosts-place-S-Spot
ghosts-place-S-Spot g a = record { processes = a.self.now.layout.processes; capacities = capacities_of a.self.now.table.shared.key.value; connection = a.connection; most = a.most }

abbrev pub ghosts-place-B-Parcel : goal.ghosts-place-B-Parcel
ghosts-place-B-Parcel g a = record { packet = unwrap_or (packet_wished a.held.now.body.process) no_packet }

abbrev pub ghost-come_to : goal.ghost-come_to
ghost-come_to g a = g.began
