use Rattle.flow_floor.specs.Plans.{receiver_at}
use Rattle.flow_floor.proofs.floor.Floor.tell_sent.Given as goal

-- the process that receives there is noted
abbrev pub ghosts-publish : goal.ghosts-publish
ghosts-publish g a = record { notes = receiver_at a.self.now.plan.items a.connection }
