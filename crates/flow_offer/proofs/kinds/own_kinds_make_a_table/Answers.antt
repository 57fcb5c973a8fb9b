use Rattle.flow_offer.proofs.Tables.{own-kinds-table}
use Rattle.flow_offer.proofs.kinds.own_kinds_make_a_table.Goals as goal

pub returns : goal.returns
returns c = own-kinds-table
