use Rattle.std.proofs.Common.{◌≡◌, drop}
use Rattle.flow_drawing.specs.Folding.{first_within}
use Rattle.flow_drawing.proofs.fronts.first_within.Given as goal

abbrev pub invariant-loop-number : goal.invariant-loop-number
invariant-loop-number l = first_within l.outer l.number (drop l.number l.processes) ≡ first_within l.outer 0 l.processes
