use Rattle.flow_group.proofs.FlatStream.{flat_meaning}
use Rattle.flow_group.proofs.meanings.flat_keeps_its_meaning.Goals as goal

pub returns : goal.returns
returns c = flat_meaning
