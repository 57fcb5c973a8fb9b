use Rattle.flow_runner.proofs.Joined.{floors-reach, floors-are-one}
use Rattle.flow_runner.proofs.stretches.two_floors_are_one.Goals as goal

pub returns-clause-reach : goal.returns-clause-reach
returns-clause-reach g c = floors-reach g.K.Component.rules

pub returns-clause-two : goal.returns-clause-two
returns-clause-two g c = floors-are-one g.K.Component.rules
