use Rattle.flow_floor.specs.Plans.{senders_at}
use Rattle.flow_floor.proofs.floor.Floor.tell_received.Given as goal

-- those that send there are noted
abbrev pub ghosts-withdraw : goal.ghosts-withdraw
ghosts-withdraw g a = record { notes = senders_at a.self.now.plan.items a.connection }
