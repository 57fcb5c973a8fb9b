use Rattle.flow_group.proofs.RowLaws.{the-only-pieces}
use Rattle.flow_group.proofs.meanings.rows_are_the_only_ones.Goals as goal

pub returns : goal.returns
returns c = the-only-pieces
