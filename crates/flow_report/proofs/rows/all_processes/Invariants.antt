use Rattle.std.proofs.Common.{◌≡◌, ◌++◌, take}
use Rattle.flow_machine.specs.Joins.{processes_of}
use Rattle.flow_report.specs.Of.{told_from, process_told, hands_told}
use Rattle.flow_report.proofs.rows.all_processes.Given as goal

abbrev pub invariant-loop-process : goal.invariant-loop-process
invariant-loop-process g l = record {
  lines : l.lines ≡ told_from (process_told l.plan) 0 (take l.process l.net.bodies);
  left : l.left ≡ l.initial.left ++ told_from hands_told 0 (take l.process (processes_of l.net.bodies));
}
