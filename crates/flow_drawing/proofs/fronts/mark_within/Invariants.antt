use Rattle.std.proofs.Common.{◌≡◌, drop}
use Rattle.flow_drawing.specs.Folding.{graver, mark_within}
use Rattle.flow_drawing.proofs.fronts.mark_within.Given as goal

abbrev pub invariant-loop-number : goal.invariant-loop-number
invariant-loop-number l = graver l.mark (mark_within l.remarks l.outer l.number (drop l.number l.processes)) ≡ mark_within l.remarks l.outer 0 l.processes
