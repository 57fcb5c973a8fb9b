use Rattle.flow_runner.proofs.Rounds.{rounds-go-on}
use Rattle.flow_runner.proofs.stretches.a_round_is_a_stretch.Goals as goal

pub returns-clause-rounds : goal.returns-clause-rounds
returns-clause-rounds g c = rounds-go-on g.K.Component.rules c.round_robins_are_schedules.ensures g.met.K.Component.lawful
