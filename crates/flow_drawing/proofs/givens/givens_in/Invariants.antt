use Rattle.std.proofs.Common.{◌≡◌, ◌++◌, drop}
use Rattle.std.specs.List.{enumerate_from, flat_map}
use Rattle.flow_drawing.specs.Drawings.{givens_of}
use Rattle.flow_drawing.proofs.givens.givens_in.Given as goal

abbrev pub invariant-loop-number : goal.invariant-loop-number
invariant-loop-number l = l.givens ++ flat_map (givens_of l.kinds l.plan) (enumerate_from l.number (drop l.number l.processes)) ≡ flat_map (givens_of l.kinds l.plan) (enumerate_from 0 l.processes)
