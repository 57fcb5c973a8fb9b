use Rattle.flow_match.proofs.ReplaceStream.{replace_meaning}
use Rattle.flow_match.proofs.meanings.replace_keeps_its_meaning.Goals as goal

pub returns : goal.returns
returns c = replace_meaning
