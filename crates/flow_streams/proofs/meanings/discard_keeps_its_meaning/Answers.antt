use Rattle.flow_streams.proofs.Silence.{discard_meaning}
use Rattle.flow_streams.proofs.meanings.discard_keeps_its_meaning.Goals as goal

pub returns : goal.returns
returns c = discard_meaning
