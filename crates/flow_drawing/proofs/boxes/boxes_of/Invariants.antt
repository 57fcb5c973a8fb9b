use Rattle.std.proofs.Common.{◌≡◌}
use Rattle.flow_drawing.specs.Drawings.{boxes_within}
use Rattle.flow_drawing.proofs.boxes.boxes_of.Given as goal

abbrev pub invariant-loop-place : goal.invariant-loop-place
invariant-loop-place l = l.boxes.items ≡ boxes_within l.name l.place
