use Rattle.flow_decimal.proofs.Summing.{sums-commute}
use Rattle.flow_decimal.proofs.laws.sums_commute.Goals as goal

pub returns : goal.returns
returns c = sums-commute
