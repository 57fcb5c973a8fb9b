use Rattle.flow_find.proofs.FindStream.{whole_matches}
use Rattle.flow_find.proofs.meanings.a_whole_match_is_its_text.Goals as goal

pub returns : goal.returns
returns c = whole_matches
