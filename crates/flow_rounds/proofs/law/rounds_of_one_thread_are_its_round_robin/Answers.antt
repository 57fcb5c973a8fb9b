use Rattle.flow_rounds.proofs.Rounds.{rounds-are-robin}
use Rattle.flow_rounds.proofs.law.rounds_of_one_thread_are_its_round_robin.Goals as goal

pub returns : goal.returns
returns g c = λ reading writing have files steps s s' each closed lead. rounds-are-robin g.K.Component.rules reading writing have files steps s s' each closed lead
