use Rattle.flow_model.proofs.OneRobin.{one-robin}
use Rattle.flow_model.proofs.laws.there_is_one_round_robin.Goals as goal

pub returns : goal.returns
returns g c = λ one s journal s' other s'' first second. one-robin g.K.Component.rules one s journal s' other s'' first second
