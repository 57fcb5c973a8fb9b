use Rattle.flow_floor.specs.Plans.{receiver_at}
use Rattle.flow_floor.proofs.floor.Floor.tell_closed.Given as goal

-- the process that receives there is noted
abbrev pub ghosts-subtract : goal.ghosts-subtract
ghosts-subtract g a = record { notes = receiver_at a.self.now.plan.items a.connection }
