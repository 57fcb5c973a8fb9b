use Rattle.flow_streams.proofs.ConcatStream.{concat_meaning}
use Rattle.flow_streams.proofs.meanings.concat_keeps_its_meaning.Goals as goal

pub returns : goal.returns
returns c = concat_meaning
