use Rattle.flow_find.proofs.SplitStream.{split_meaning}
use Rattle.flow_find.proofs.meanings.split_keeps_its_meaning.Goals as goal

pub returns : goal.returns
returns c = split_meaning
