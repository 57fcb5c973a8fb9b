use Rattle.flow_parts.proofs.WordsStream.{words_meaning}
use Rattle.flow_parts.proofs.meanings.words_keeps_its_meaning.Goals as goal

pub returns : goal.returns
returns c = words_meaning
