use Rattle.flow_floor.specs.Ends.{capacities_of}
use Rattle.flow_floor.proofs.floor.Floor.come_to.Given as goal

-- the connection
abbrev pub ghosts-reach : goal.ghosts-reach
ghosts-reach g a = record { processes = a.self.now.layout.processes; capacities = capacities_of a.self.now.table.shared.key.value; connection = a.connection; most = 0 }
