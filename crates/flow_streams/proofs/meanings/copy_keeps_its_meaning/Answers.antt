use Rattle.flow_streams.proofs.CopyStream.{copy_meaning}
use Rattle.flow_streams.proofs.meanings.copy_keeps_its_meaning.Goals as goal

pub returns : goal.returns
returns c = copy_meaning
