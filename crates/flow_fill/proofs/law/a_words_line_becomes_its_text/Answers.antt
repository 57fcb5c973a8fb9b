use Rattle.flow_fill.proofs.Grammar.{words_line}
use Rattle.flow_fill.proofs.law.a_words_line_becomes_its_text.Goals as goal

pub returns : goal.returns
returns c = λ given line word beside row text r named has. words_line given line word beside row text r named has
