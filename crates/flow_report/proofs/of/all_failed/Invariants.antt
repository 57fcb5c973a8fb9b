use Rattle.std.proofs.Common.{◌≡◌, take}
use Rattle.flow_machine.specs.Joins.{processes_of}
use Rattle.flow_report.specs.Of.{told_from, failure_told}
use Rattle.flow_report.proofs.of.all_failed.Given as goal

abbrev pub invariant-loop-process : goal.invariant-loop-process
invariant-loop-process g l = l.failed ≡ told_from (failure_told l.plan) 0 (take l.process (processes_of l.net.bodies))
