use Rattle.flow_runner.proofs.Crews.{merge-to-all}
use Rattle.flow_runner.proofs.crew.what_each_made_is_what_all_made.Goals as goal

pub returns : goal.returns
returns g c = merge-to-all
