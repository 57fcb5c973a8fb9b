use Rattle.std.proofs.Common.{◌≡◌, ◌++◌, drop}
use Rattle.std.specs.List.{enumerate_from, flat_map}
use Rattle.flow_drawing.specs.Drawings.{given_option}
use Rattle.flow_drawing.proofs.givens.put_options.Given as goal

abbrev pub invariant-loop-place : goal.invariant-loop-place
invariant-loop-place l = l.givens ++ flat_map (given_option l.kinds l.number l.kind) (enumerate_from l.place (drop l.place l.options)) ≡ l.initial.givens ++ flat_map (given_option l.kinds l.number l.kind) (enumerate_from 0 l.options)
