use Rattle.flow_pick.proofs.HeadStream.{head_meaning}
use Rattle.flow_pick.proofs.meanings.head_keeps_its_meaning.Goals as goal

pub returns : goal.returns
returns c = head_meaning
