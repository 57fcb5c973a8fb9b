use Rattle.flow_model.proofs.Journals.{round-leads}
use Rattle.flow_model.proofs.laws.round_robins_are_schedules.Goals as goal

pub returns : goal.returns
returns g c = round-leads g.K.Component.rules
