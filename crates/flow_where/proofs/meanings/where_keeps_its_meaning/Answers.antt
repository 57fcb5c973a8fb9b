use Rattle.flow_where.proofs.WhereStream.{where_meaning}
use Rattle.flow_where.proofs.meanings.where_keeps_its_meaning.Goals as goal

pub returns : goal.returns
returns c = where_meaning
