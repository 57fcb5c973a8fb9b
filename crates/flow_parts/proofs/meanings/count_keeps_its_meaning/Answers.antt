use Rattle.flow_parts.proofs.CountStream.{count_meaning}
use Rattle.flow_parts.proofs.meanings.count_keeps_its_meaning.Goals as goal

pub returns : goal.returns
returns c = count_meaning
