use Rattle.flow_floor.specs.Ends.{capacities_of}
use Rattle.flow_floor.proofs.floor.Floor.receive_on.Given as goal

-- the connection
abbrev pub ghosts-draw : goal.ghosts-draw
ghosts-draw g a = record { processes = a.self.now.layout.processes; capacities = capacities_of a.self.now.table.shared.key.value; connection = a.connection; most = 0 }
