use Rattle.flow_machine.proofs.Reaching.{reach-then}
use Rattle.flow_runner.proofs.stretches.two_stretches_are_one.Goals as goal

pub returns-clause-two : goal.returns-clause-two
returns-clause-two g c = reach-then g.K.Component.rules g.met.K.Component.lawful
