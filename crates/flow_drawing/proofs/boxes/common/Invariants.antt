use Rattle.std.proofs.Common.{◌≡◌, ◌+◌, drop, bytes_eq}
use Rattle.std.specs.List.{common_prefix_len}
use Rattle.flow_drawing.proofs.boxes.common.Given as goal

abbrev pub invariant-loop-place : goal.invariant-loop-place
invariant-loop-place l = l.place + common_prefix_len bytes_eq (drop l.place l.opened) (drop l.place l.boxes) ≡ common_prefix_len bytes_eq l.opened l.boxes
