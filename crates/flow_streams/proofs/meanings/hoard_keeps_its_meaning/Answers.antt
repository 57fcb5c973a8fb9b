use Rattle.flow_streams.proofs.Silence.{hoard_meaning}
use Rattle.flow_streams.proofs.meanings.hoard_keeps_its_meaning.Goals as goal

pub returns : goal.returns
returns c = hoard_meaning
