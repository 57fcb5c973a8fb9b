use Rattle.flow_streams.proofs.CollateStream.{collate_meaning}
use Rattle.flow_streams.proofs.meanings.collate_keeps_its_meaning.Goals as goal

pub returns : goal.returns
returns c = collate_meaning
