use Rattle.flow_pick.proofs.UniqueStream.{unique_meaning}
use Rattle.flow_pick.proofs.meanings.unique_keeps_its_meaning.Goals as goal

pub returns : goal.returns
returns c = unique_meaning
