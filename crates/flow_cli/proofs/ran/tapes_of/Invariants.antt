use Rattle.flow_cli.proofs.Taping.{TapedBelow}
use Rattle.flow_cli.proofs.ran.tapes_of.Given as goal

abbrev pub invariant-loop-process : goal.invariant-loop-process
invariant-loop-process g l = TapedBelow l.own l.plan l.net.bodies l.process l.tapes.items
