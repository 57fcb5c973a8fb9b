use Rattle.std.proofs.Common.{◌≡◌, ◌++◌, drop}
use Rattle.std.specs.List.{enumerate_from, flat_map}
use Rattle.flow_drawing.specs.Drawings.{given_initial}
use Rattle.flow_drawing.proofs.givens.put_initials.Given as goal

abbrev pub invariant-loop-place : goal.invariant-loop-place
invariant-loop-place l = l.givens ++ flat_map (given_initial l.plan l.number) (enumerate_from l.place (drop l.place l.initials)) ≡ l.initial.givens ++ flat_map (given_initial l.plan l.number) (enumerate_from 0 l.initials)
