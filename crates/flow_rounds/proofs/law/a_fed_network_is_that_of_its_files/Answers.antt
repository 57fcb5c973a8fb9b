use Rattle.flow_rounds.proofs.Tending.{fed-is-whole}
use Rattle.flow_rounds.proofs.law.a_fed_network_is_that_of_its_files.Goals as goal

pub returns : goal.returns
returns g c = λ reading writing have files. fed-is-whole g.K.Component.rules reading writing have files
