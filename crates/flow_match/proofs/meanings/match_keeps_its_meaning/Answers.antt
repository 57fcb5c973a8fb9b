use Rattle.flow_match.proofs.MatchStream.{match_meaning}
use Rattle.flow_match.proofs.meanings.match_keeps_its_meaning.Goals as goal

pub returns : goal.returns
returns c = match_meaning
