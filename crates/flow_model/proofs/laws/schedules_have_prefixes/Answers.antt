use Rattle.flow_model.proofs.Journals.{prefix-of}
use Rattle.flow_model.proofs.laws.schedules_have_prefixes.Goals as goal

pub returns : goal.returns
returns g c = λ s journal s' k leads within. prefix-of g.K.Component.rules k s journal.turns journal.seen s' leads within
