use Rattle.flow_machine.proofs.Thinking.{thinks-worked}
use Rattle.flow_machine.proofs.body.Body.think.Goals as goal

pub returns-in-Ok-Some-clause-thinks : goal.returns-in-Ok-Some-clause-thinks
returns-in-Ok-Some-clause-thinks g c = thinks-worked g.K.Component.rules c.args.self.now c.work.new.self c.ready.result c.ready.new.self c.in-Ok-Some.ensures.worked.0 c.ready.ensures.prepares

pub returns-in-Ok-None-clause-thinks : goal.returns-in-Ok-None-clause-thinks
returns-in-Ok-None-clause-thinks g c = thinks-worked g.K.Component.rules c.args.self.now c.work.new.self c.prepare-in-Ok-None.result c.prepare-in-Ok-None.new.self c.in-Ok-None.ensures.worked.0 c.prepare-in-Ok-None.ensures.prepares
