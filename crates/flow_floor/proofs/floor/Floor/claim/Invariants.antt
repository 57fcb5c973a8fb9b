use Rattle.std.proofs.Common.{[]}
use Rattle.flow_floor.proofs.floor.Floor.claim.Given as goal

-- how many connections there are
abbrev pub ghosts-claim_at : goal.ghosts-claim_at
ghosts-claim_at g a = record { processes = 0; capacities = []; connection = a.self.now.layout.connections; most = 0 }
