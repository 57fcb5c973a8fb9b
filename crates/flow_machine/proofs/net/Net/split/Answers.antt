use Rattle.flow_machine.specs.Values.{net_with}
use Rattle.flow_machine.proofs.JoinPieces.{joins-pieces}
use Rattle.flow_machine.proofs.net.Net.split.Goals as goal

pub returns-clause-joins : goal.returns-clause-joins
returns-clause-joins g c = joins-pieces g.K.Component.rules (net_with c.self.inside.connections.items c.self.inside.bodies.items c.self.inside.channels.items) c.self.invariant.fit c.self.invariant.planned
