use Rattle.flow_find.proofs.FindStream.{find_meaning}
use Rattle.flow_find.proofs.meanings.find_keeps_its_meaning.Goals as goal

pub returns : goal.returns
returns c = find_meaning
