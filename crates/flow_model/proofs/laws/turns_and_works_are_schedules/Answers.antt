use Rattle.flow_model.proofs.Opens.{closed-leads, reaches-leads}
use Rattle.flow_model.proofs.laws.turns_and_works_are_schedules.Goals as goal

pub returns-clause-closed : goal.returns-clause-closed
returns-clause-closed g c = closed-leads g.K.Component.rules

pub returns-clause-from_open : goal.returns-clause-from_open
returns-clause-from_open g c = reaches-leads g.K.Component.rules
