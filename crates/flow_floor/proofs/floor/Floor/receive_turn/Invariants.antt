use Rattle.std.proofs.Common.{[], ◌∷◌}
use Rattle.flow_model.specs.Events.{Gets, Hears_end}
use Rattle.flow_floor.specs.Ends.{capacities_of}
use Rattle.flow_floor.proofs.floor.Floor.receive_turn.Given as goal

-- the connection
abbrev pub ghosts-draw : goal.ghosts-draw
ghosts-draw g a = record { processes = a.self.now.layout.processes; capacities = capacities_of a.self.now.table.shared.key.value; connection = a.connection; most = 0 }

-- it hears the end
abbrev pub ghosts-end_as : goal.ghosts-end_as
ghosts-end_as g a = record { turns = record { body = a.held.now.body; event = Hears_end a.port.0 } ∷ []; start = a.self.now.table.shared.key.value }

-- it gets the packet that was drawn
abbrev pub ghosts-got_as : goal.ghosts-got_as
ghosts-got_as g a = record { turns = record { body = a.held.now.body; event = Gets a.port.0 a.connection a.packet } ∷ []; start = a.self.now.table.shared.key.value }
