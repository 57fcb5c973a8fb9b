use Rattle.std.proofs.Common.{◌≡◌, take}
use Rattle.flow_machine.specs.Joins.{processes_of}
use Rattle.flow_machine.specs.Nets.{looks_of}
use Rattle.flow_report.specs.Of.{told_from}
use Rattle.flow_draw.specs.States.{process_said}
use Rattle.flow_draw.proofs.remarks.process_remarks.Given as goal

abbrev pub invariant-loop-process : goal.invariant-loop-process
invariant-loop-process g l = l.remarks ≡ told_from (process_said l.plan l.cycle (looks_of l.net.channels)) 0 (take l.process (processes_of l.net.bodies))
