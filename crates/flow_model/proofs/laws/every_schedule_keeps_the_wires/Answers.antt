use Rattle.flow_model.proofs.Wiring.{wires-leads}
use Rattle.flow_model.proofs.laws.every_schedule_keeps_the_wires.Goals as goal

pub returns : goal.returns
returns g c = λ plan components journal s well leads. wires-leads g.K.Component.rules plan components journal s leads
