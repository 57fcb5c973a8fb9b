use Rattle.flow_floor.proofs.Gated.{wishing-gated}
use Rattle.flow_floor.proofs.floor.Held.goes_on.Goals as goal

pub returns-in-Wishing-clause-gated : goal.returns-in-Wishing-clause-gated
returns-in-Wishing-clause-gated g c going owes = wishing-gated g.K.Component.rules (g.G.Gate.has_passed c.args.gate.now) c.args.self.now.body c.think.new.self.body c.in-Wishing.ensures.thinks c.think.ensures.passed owes
