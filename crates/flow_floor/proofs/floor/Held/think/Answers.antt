use Rattle.std.proofs.Common.{refl}
use Rattle.flow_floor.proofs.Thinking.{wired-think}
use Rattle.flow_floor.proofs.Holding.{held-think}
use Rattle.flow_floor.proofs.floor.Held.think.Goals as goal

pub returns-clause-held : goal.returns-clause-held
returns-clause-held g c = λ f w q. held-think g.K.Component.rules f.table.shared.table_id f.layout.processes w c.args.self.now _ c.think-thought.result q c.think-thought.ensures.thinks c.think-thought.ensures.keeps refl

pub returns-clause-wired : goal.returns-clause-wired
returns-clause-wired g c = λ f w. wired-think g.K.Component.rules f.layout.connections c.args.self.now.body _ c.think-thought.result c.think-thought.ensures.thinks w
