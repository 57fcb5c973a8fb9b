use Rattle.flow_model.proofs.Rising.{finished-leads_on}
use Rattle.flow_model.proofs.laws.a_finished_network_leads_on.Goals as goal

pub returns : goal.returns
returns g c = λ plan components journal s well leads finished. finished-leads_on g.K.Component.rules plan components journal s well leads finished
