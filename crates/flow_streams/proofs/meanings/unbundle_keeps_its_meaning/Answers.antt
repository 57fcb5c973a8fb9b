use Rattle.flow_streams.proofs.UnbundleStream.{unbundle_meaning}
use Rattle.flow_streams.proofs.meanings.unbundle_keeps_its_meaning.Goals as goal

pub returns : goal.returns
returns c = unbundle_meaning
