use Rattle.flow_played.proofs.PlainRuns.{runs-as-it-is}
use Rattle.flow_played.proofs.plain.a_network_without_own_components_runs_as_it_is.Goals as goal

pub returns : goal.returns
returns g c = λ plan components. runs-as-it-is g.K.Component.rules plan components
