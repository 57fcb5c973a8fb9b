use Rattle.flow_cycle.proofs.Nets.{finds-cycle}
use Rattle.flow_cycle.proofs.a_net_tells_its_waiting_cycle.Goals as goal

pub returns : goal.returns
returns g c = finds-cycle g.K.Component.rules g.met.K.Component.lawful
