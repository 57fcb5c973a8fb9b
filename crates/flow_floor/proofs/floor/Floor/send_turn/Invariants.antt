use Rattle.std.proofs.Common.{[], ◌∷◌}
use Rattle.std.specs.Prelude.{slice_index, unwrap_or}
use Rattle.flow_model.specs.Events.{Sends}
use Rattle.flow_machine.specs.Nets.{packet_wished}
use Rattle.flow_floor.specs.Ends.{capacities_of}
use Rattle.flow_floor.specs.Parcels.{no_packet}
use Rattle.flow_floor.proofs.floor.Floor.send_turn.Given as goal

-- the connection
abbrev pub ghosts-arrive : goal.ghosts-arrive
ghosts-arrive g a = record { processes = a.self.now.layout.processes; capacities = capacities_of a.self.now.table.shared.key.value; connection = a.connection; most = 0 }

-- with its capacity
abbrev pub ghosts-send_as-S-Spot : goal.ghosts-send_as-S-Spot
ghosts-send_as-S-Spot g a = record { processes = a.self.now.layout.processes; capacities = capacities_of a.self.now.table.shared.key.value; connection = a.connection; most = slice_index (capacities_of a.self.now.table.shared.key.value) a.connection }

-- the packet of its wish is sent
abbrev pub ghosts-send_as-D-Deed : goal.ghosts-send_as-D-Deed
ghosts-send_as-D-Deed g a = record { turns = record { body = a.held.now.body; event = Sends a.port.0 a.connection (unwrap_or (packet_wished a.held.now.body.process) no_packet) } ∷ []; start = a.self.now.table.shared.key.value }

abbrev pub ghosts-send_as-B-Parcel : goal.ghosts-send_as-B-Parcel
ghosts-send_as-B-Parcel g a = record { packet = unwrap_or (packet_wished a.held.now.body.process) no_packet }
