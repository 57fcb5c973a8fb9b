use Rattle.flow_streams.proofs.SelectStream.{select_meaning, select_takes_texts, select_starts}
use Rattle.flow_streams.proofs.meanings.select_keeps_its_meaning.Goals as goal

pub returns-clause-selection : goal.returns-clause-selection
returns-clause-selection c = select_meaning

pub returns-clause-texts : goal.returns-clause-texts
returns-clause-texts c = select_takes_texts

pub returns-clause-activations : goal.returns-clause-activations
returns-clause-activations c = select_starts
