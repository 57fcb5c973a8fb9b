use Rattle.flow_parts.proofs.TallyStream.{tally_meaning}
use Rattle.flow_parts.proofs.meanings.tally_keeps_its_meaning.Goals as goal

pub returns : goal.returns
returns c = tally_meaning
