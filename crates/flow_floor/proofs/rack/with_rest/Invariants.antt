use Rattle.std.proofs.Common.{◌≡◌, ◌+◌, ◌++◌, length, vec_capacity}
use Rattle.std.specs.Vec.Iter.{into_iter_items, into_iter_len}
use Rattle.flow_floor.proofs.rack.with_rest.Given as goal

-- those that are left go behind those that were put
abbrev pub invariant-loop-body : goal.invariant-loop-body
invariant-loop-body g l = record {
  items : l.bodies.items ++ into_iter_items l.left ≡ l.fn.bodies.items ++ into_iter_items l.fn.left;
  long : length l.bodies.items + length (into_iter_items l.left) ≡ length l.fn.bodies.items + length (into_iter_items l.fn.left);
  len : into_iter_len l.left ≡ length (into_iter_items l.left);
  room : vec_capacity l.bodies ≡ vec_capacity l.fn.bodies;
}

abbrev pub decreases-loop-body : goal.decreases-loop-body
decreases-loop-body g l = into_iter_len l.left
