use Rattle.std.proofs.Common.{◌≡◌, ◌++◌, drop, []}
use Rattle.flow_drawing.specs.Drawings.{rows_from}
use Rattle.flow_drawing.proofs.rows.rows_of.Given as goal

abbrev pub invariant-loop-number : goal.invariant-loop-number
invariant-loop-number l = l.rows ++ rows_from l.kinds l.remarks l.opened.items l.number (drop l.number l.processes) ≡ rows_from l.kinds l.remarks [] 0 l.processes
