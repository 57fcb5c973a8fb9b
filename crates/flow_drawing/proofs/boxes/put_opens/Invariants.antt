use Rattle.std.proofs.Common.{◌≡◌, ◌++◌, drop}
use Rattle.flow_drawing.specs.Drawings.{begun}
use Rattle.flow_drawing.proofs.boxes.put_opens.Given as goal

abbrev pub invariant-loop-depth : goal.invariant-loop-depth
invariant-loop-depth l = l.rows ++ begun l.process l.depth (drop l.depth l.boxes) ≡ l.initial.rows ++ begun l.process l.fn.first (drop l.fn.first l.boxes)
