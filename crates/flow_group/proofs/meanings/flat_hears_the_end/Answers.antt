use Rattle.flow_group.proofs.FlatEnd.{flat_hears}
use Rattle.flow_group.proofs.meanings.flat_hears_the_end.Goals as goal

pub returns : goal.returns
returns c = flat_hears
