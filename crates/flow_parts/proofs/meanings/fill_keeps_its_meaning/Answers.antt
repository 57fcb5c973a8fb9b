use Rattle.flow_parts.proofs.FillStream.{fill_meaning}
use Rattle.flow_parts.proofs.OneFilling.{one_filling}
use Rattle.flow_parts.proofs.meanings.fill_keeps_its_meaning.Goals as goal

pub returns-clause-filling : goal.returns-clause-filling
returns-clause-filling c = fill_meaning

pub returns-clause-one : goal.returns-clause-one
returns-clause-one c = one_filling
