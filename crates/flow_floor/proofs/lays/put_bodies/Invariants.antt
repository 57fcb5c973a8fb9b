use Rattle.std.proofs.Common.{◌≡◌, ◌+◌, ◌++◌, length, map, vec_capacity}
use Rattle.std.specs.Vec.Iter.{into_iter_items, into_iter_len}
use Rattle.flow_floor.specs.declared.board.Slot.TheVariants as slot
use Rattle.flow_floor.proofs.lays.put_bodies.Given as goal

-- those that are left go behind those that were put
abbrev pub invariant-loop-body : goal.invariant-loop-body
invariant-loop-body g l = record {
  items : l.slots.items ++ map slot.Body (into_iter_items l.left) ≡ l.fn.slots.items ++ map slot.Body l.fn.bodies.items;
  long : length l.slots.items + length (into_iter_items l.left) ≡ length l.fn.slots.items + length l.fn.bodies.items;
  len : into_iter_len l.left ≡ length (into_iter_items l.left);
  room : vec_capacity l.slots ≡ vec_capacity l.fn.slots;
}

abbrev pub decreases-loop-body : goal.decreases-loop-body
decreases-loop-body g l = into_iter_len l.left
