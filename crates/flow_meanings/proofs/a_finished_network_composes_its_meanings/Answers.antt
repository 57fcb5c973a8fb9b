use Rattle.flow_meanings.proofs.Composing.{finished-composes}
use Rattle.flow_meanings.proofs.a_finished_network_composes_its_meanings.Goals as goal

pub returns : goal.returns
returns c = finished-composes
