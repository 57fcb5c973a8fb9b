use Rattle.flow_witness.proofs.Nights.{nightly-means}
use Rattle.flow_witness.proofs.nightly.the_nightly_network_is_a_batch_update.Goals as goal

pub returns : goal.returns
returns c = nightly-means
