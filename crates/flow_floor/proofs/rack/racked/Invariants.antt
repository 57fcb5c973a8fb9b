use Rattle.std.proofs.Common.{◌≡◌, ◌+◌, ◌++◌, length, vec_capacity}
use Rattle.std.specs.Vec.Iter.{into_iter_items, into_iter_len}
use Rattle.flow_floor.proofs.rack.racked.Given as goal

-- those that are left go behind those that were put
abbrev pub invariant-loop-body : goal.invariant-loop-body
invariant-loop-body g l = record {
  items : l.racks.items ++ into_iter_items l.left ≡ l.fn.bodies.items;
  long : length l.racks.items + length (into_iter_items l.left) ≡ length l.fn.bodies.items;
  len : into_iter_len l.left ≡ length (into_iter_items l.left);
  room : vec_capacity l.racks ≡ vec_capacity l.fn.racks;
}

abbrev pub decreases-loop-body : goal.decreases-loop-body
decreases-loop-body g l = into_iter_len l.left
