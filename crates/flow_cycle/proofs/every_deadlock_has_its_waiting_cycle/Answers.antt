use Rattle.flow_cycle.proofs.Deadlocks.{deadlocks-wait}
use Rattle.flow_cycle.proofs.every_deadlock_has_its_waiting_cycle.Goals as goal

pub returns : goal.returns
returns g c = deadlocks-wait g.K.Component.rules g.met.K.Component.lawful
