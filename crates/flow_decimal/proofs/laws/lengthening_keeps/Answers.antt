use Rattle.flow_decimal.proofs.Summing.{lengthening-keeps}
use Rattle.flow_decimal.proofs.laws.lengthening_keeps.Goals as goal

pub returns : goal.returns
returns c = lengthening-keeps
