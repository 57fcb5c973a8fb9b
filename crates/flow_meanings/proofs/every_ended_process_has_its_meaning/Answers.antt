use Rattle.flow_meanings.proofs.Composing.{keeps-meanings}
use Rattle.flow_meanings.proofs.every_ended_process_has_its_meaning.Goals as goal

pub returns : goal.returns
returns c = keeps-meanings
