use Rattle.flow_machine.proofs.JoinState.{fit-join}
use Rattle.flow_machine.proofs.net.parts.Parts.join.Goals as goal

pub invariant_of-result : goal.invariant_of-result
invariant_of-result g c = record { fit = fit-join g.K.Component.rules _ c.requires; planned = c.requires.planned }
