use Rattle.flow_decimal.proofs.Spellings.{spelling-reads-back}
use Rattle.flow_decimal.proofs.laws.spelling_reads_back.Goals as goal

pub returns : goal.returns
returns c = spelling-reads-back
