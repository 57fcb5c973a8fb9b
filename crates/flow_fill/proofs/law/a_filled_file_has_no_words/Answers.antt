use Rattle.flow_fill.proofs.Remains.{no_words}
use Rattle.flow_fill.proofs.law.a_filled_file_has_no_words.Goals as goal

pub returns : goal.returns
returns c = λ given lines third none. no_words given lines third none
