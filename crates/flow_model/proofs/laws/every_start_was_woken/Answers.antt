use Rattle.flow_model.proofs.Waking.{all-woken}
use Rattle.flow_model.proofs.laws.every_start_was_woken.Goals as goal

pub returns : goal.returns
returns g c = λ plan components journal s well leads. all-woken g.K.Component.rules g.met.K.Component.lawful plan components journal s well leads
