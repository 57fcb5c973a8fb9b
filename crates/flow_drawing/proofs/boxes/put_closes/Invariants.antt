use Rattle.std.proofs.Common.{◌≡◌, ◌++◌, replicate}
use Rattle.flow_drawing.specs.declared.drawing.Row.TheVariants.{Closes}
use Rattle.flow_drawing.proofs.boxes.put_closes.Given as goal

abbrev pub invariant-loop-done : goal.invariant-loop-done
invariant-loop-done l = l.rows ≡ l.initial.rows ++ replicate l.done Closes
