use Rattle.flow_fill.proofs.Remains.{others_stay}
use Rattle.flow_fill.proofs.law.other_lines_stay.Goals as goal

pub returns : goal.returns
returns c = λ place given line. others_stay place given line
