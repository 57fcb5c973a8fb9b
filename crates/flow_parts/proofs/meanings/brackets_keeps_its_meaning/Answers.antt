use Rattle.flow_parts.proofs.BracketsStream.{brackets_meaning}
use Rattle.flow_parts.proofs.meanings.brackets_keeps_its_meaning.Goals as goal

pub returns : goal.returns
returns c = brackets_meaning
