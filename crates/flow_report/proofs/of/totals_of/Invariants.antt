use Rattle.std.proofs.Common.{◌≡◌, take}
use Rattle.flow_report.specs.Of.{totals_in}
use Rattle.flow_report.proofs.of.totals_of.Given as goal

abbrev pub invariant-loop-process : goal.invariant-loop-process
invariant-loop-process g l = l.totals ≡ totals_in (take l.process l.net.bodies)
