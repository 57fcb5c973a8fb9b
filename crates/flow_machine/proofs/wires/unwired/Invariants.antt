use Rattle.std.proofs.Common.{◌≡◌, map, take}
use Rattle.flow_machine.proofs.WireLemmas.{empty_row}
use Rattle.flow_machine.proofs.wires.unwired.Given as goal

abbrev pub invariant-loop-process : goal.invariant-loop-process
invariant-loop-process l = l.rows.items ≡ map (empty_row l.input) (take l.process-index l.processes)
