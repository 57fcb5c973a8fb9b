use Rattle.std.proofs.Common.{[], ◌∷◌, slice_get}
use Rattle.flow_model.specs.States.{outlets}
use Rattle.flow_floor.specs.Turning.{closed_event}
use Rattle.flow_floor.specs.Ends.{capacities_of}
use Rattle.flow_floor.proofs.floor.Floor.close_turn.Given as goal

-- the connection
abbrev pub ghosts-arrive : goal.ghosts-arrive
ghosts-arrive g a = record { processes = a.self.now.layout.processes; capacities = capacities_of a.self.now.table.shared.key.value; connection = a.connection; most = 0 }

-- its next output is closed
abbrev pub ghosts-close_as : goal.ghosts-close_as
ghosts-close_as g a = record { turns = record { body = a.held.now.body; event = closed_event (slice_get (outlets a.held.now.body.process) a.place) } ∷ []; start = a.self.now.table.shared.key.value }
