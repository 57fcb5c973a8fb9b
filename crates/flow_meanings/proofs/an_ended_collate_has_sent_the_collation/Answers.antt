use Rattle.flow_meanings.proofs.Batching.{ended-collates}
use Rattle.flow_meanings.proofs.an_ended_collate_has_sent_the_collation.Goals as goal

pub returns : goal.returns
returns c = ended-collates
