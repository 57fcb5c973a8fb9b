use Rattle.flow_streams.proofs.BundleStream.{bundle_meaning}
use Rattle.flow_streams.proofs.meanings.bundle_keeps_its_meaning.Goals as goal

pub returns : goal.returns
returns c = bundle_meaning
