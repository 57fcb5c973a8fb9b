use Rattle.flow_pick.proofs.TailStream.{tail_meaning}
use Rattle.flow_pick.proofs.meanings.tail_keeps_its_meaning.Goals as goal

pub returns : goal.returns
returns c = tail_meaning
