use Rattle.flow_fill.proofs.Remains.{lines_kept}
use Rattle.flow_fill.proofs.law.lines_keep_their_places.Goals as goal

pub returns : goal.returns
returns c = λ given lines. lines_kept given lines
