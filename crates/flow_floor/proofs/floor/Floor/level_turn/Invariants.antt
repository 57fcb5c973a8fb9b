use Rattle.std.proofs.Common.{[], ◌∷◌}
use Rattle.std.specs.Prelude.{slice_index}
use Rattle.flow_model.specs.Events.{Learns}
use Rattle.flow_floor.specs.Ends.{capacities_of}
use Rattle.flow_floor.proofs.floor.Floor.level_turn.Given as goal

-- the connection
abbrev pub ghosts-arrive : goal.ghosts-arrive
ghosts-arrive g a = record { processes = a.self.now.layout.processes; capacities = capacities_of a.self.now.table.shared.key.value; connection = a.connection; most = 0 }

-- with its capacity
abbrev pub ghosts-learn : goal.ghosts-learn
ghosts-learn g a = record { processes = a.self.now.layout.processes; capacities = capacities_of a.self.now.table.shared.key.value; connection = a.connection; most = slice_index (capacities_of a.self.now.table.shared.key.value) a.connection }

-- it is told the level that was learnt
abbrev pub ghosts-learn_as : goal.ghosts-learn_as
ghosts-learn_as g a = record { turns = record { body = a.held.now.body; event = Learns a.port.0 a.level } ∷ []; start = a.self.now.table.shared.key.value }
