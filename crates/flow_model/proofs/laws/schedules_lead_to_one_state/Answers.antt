use Rattle.flow_model.proofs.OneRobin.{same-leads}
use Rattle.flow_model.proofs.laws.schedules_lead_to_one_state.Goals as goal

pub returns : goal.returns
returns g c = λ one s journal s' s'' first second. same-leads g.K.Component.rules one s journal s' s'' first second
