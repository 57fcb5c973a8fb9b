use Rattle.flow_offer.proofs.Versions.{own-kinds-version}
use Rattle.flow_offer.proofs.kinds.own_kinds_make_a_table_of_each_version.Goals as goal

pub returns : goal.returns
returns c = own-kinds-version
