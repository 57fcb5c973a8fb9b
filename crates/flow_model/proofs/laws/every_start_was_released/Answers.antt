use Rattle.flow_model.proofs.Releasing.{all-released}
use Rattle.flow_model.proofs.laws.every_start_was_released.Goals as goal

pub returns : goal.returns
returns g c = λ plan components journal s well leads. all-released g.K.Component.rules g.met.K.Component.lawful plan components journal s well leads
