use Rattle.std.proofs.Common.{◌≡◌, ◌++◌, drop}
use Rattle.std.specs.List.{enumerate_from, flat_map}
use Rattle.flow_drawing.specs.Folding.{folded_row}
use Rattle.flow_drawing.proofs.folding.folded_rows.Given as goal

abbrev pub invariant-loop-number : goal.invariant-loop-number
invariant-loop-number l =
    l.rows ++ flat_map (folded_row l.kinds l.remarks l.processes) (enumerate_from l.number (drop l.number l.processes)) ≡ flat_map (folded_row l.kinds l.remarks l.processes) (enumerate_from 0 l.processes)
