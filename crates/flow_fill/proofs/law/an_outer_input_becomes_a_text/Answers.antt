use Rattle.flow_fill.proofs.Grammar.{outer_input}
use Rattle.flow_fill.proofs.law.an_outer_input_becomes_a_text.Goals as goal

pub returns : goal.returns
returns c = λ given line word into to text is named has. outer_input given line word into to text is named has
