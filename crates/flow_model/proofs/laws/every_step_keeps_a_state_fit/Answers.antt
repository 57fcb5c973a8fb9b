use Rattle.flow_model.proofs.Fits.{Fit-start, Fit-turn, Fit-work}
use Rattle.flow_model.proofs.laws.every_step_keeps_a_state_fit.Goals as goal

pub returns-clause-start : goal.returns-clause-start
returns-clause-start g c = Fit-start g.K.Component.rules

pub returns-clause-turn : goal.returns-clause-turn
returns-clause-turn g c = Fit-turn g.K.Component.rules

pub returns-clause-work : goal.returns-clause-work
returns-clause-work g c = Fit-work g.K.Component.rules g.met.K.Component.lawful
