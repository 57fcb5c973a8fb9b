use Rattle.flow_rounds.proofs.Leaving.{steps-leave}
use Rattle.flow_rounds.proofs.law.turns_leave_the_files.Goals as goal

pub returns : goal.returns
returns g c = steps-leave g.K.Component.rules
