use Rattle.std.proofs.Common.{◌≡◌, ◌+◌, ◌++◌, length, vec_capacity}
use Rattle.std.specs.Vec.Iter.{into_iter_items, into_iter_len}
use Rattle.flow_floor.proofs.rack.unracked.Given as goal

-- those that are left go behind those that were put
abbrev pub invariant-loop-rack : goal.invariant-loop-rack
invariant-loop-rack g l = record {
  items : l.bodies.items ++ into_iter_items l.left ≡ l.fn.bodies.items ++ l.fn.racks.items;
  long : length l.bodies.items + length (into_iter_items l.left) ≡ length l.fn.bodies.items + length l.fn.racks.items;
  len : into_iter_len l.left ≡ length (into_iter_items l.left);
  room : vec_capacity l.bodies ≡ vec_capacity l.fn.bodies;
}

abbrev pub decreases-loop-rack : goal.decreases-loop-rack
decreases-loop-rack g l = into_iter_len l.left
