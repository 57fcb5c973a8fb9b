use Rattle.std.proofs.Common.{◌≡◌, take}
use Rattle.flow_machine.specs.Nets.{looks_of}
use Rattle.flow_machine.specs.Joins.{processes_of}
use Rattle.flow_report.specs.Of.{told_from, block_told}
use Rattle.flow_report.proofs.of.all_blocked.Given as goal

abbrev pub invariant-loop-process : goal.invariant-loop-process
invariant-loop-process g l = l.blocked ≡ told_from (block_told l.plan (looks_of l.net.channels)) 0 (take l.process (processes_of l.net.bodies))
