use Rattle.flow_offer.proofs.Versions.{version-within}
use Rattle.flow_offer.proofs.kinds.a_table_of_a_version_is_within.Goals as goal

pub returns : goal.returns
returns c = version-within
