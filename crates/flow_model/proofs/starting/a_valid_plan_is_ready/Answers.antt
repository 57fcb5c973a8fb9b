use Rattle.flow_model.proofs.Sends.{sends-there}
use Rattle.flow_model.proofs.StartsWell.{starts-well}
use Rattle.flow_model.proofs.starting.a_valid_plan_is_ready.Goals as goal

pub returns-clause-starts : goal.returns-clause-starts
returns-clause-starts g c = λ network components valid fit. starts-well g.K.Component.rules network components valid fit

pub returns-clause-sends : goal.returns-clause-sends
returns-clause-sends g c = λ network p o valid has. sends-there network p o has
