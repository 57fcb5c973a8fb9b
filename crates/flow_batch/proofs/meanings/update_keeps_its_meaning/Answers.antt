use Rattle.flow_batch.proofs.UpdateStream.{update_meaning}
use Rattle.flow_batch.proofs.meanings.update_keeps_its_meaning.Goals as goal

pub returns : goal.returns
returns c = update_meaning
