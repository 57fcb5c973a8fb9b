use Rattle.flow_rounds.proofs.Steps.{steps-are-robin}
use Rattle.flow_rounds.proofs.law.steps_are_a_round_robin.Goals as goal

pub returns : goal.returns
returns g c = steps-are-robin g.K.Component.rules
