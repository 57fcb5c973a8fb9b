use Rattle.std.proofs.Common.{◌≡◌, ◌++◌, None, replicate, vec_capacity}
use Rattle.flow_floor.specs.declared.board.Slot.TheVariants as slot
use Rattle.flow_floor.proofs.lays.put_cells.Given as goal

-- so many were put
abbrev pub invariant-loop-i : goal.invariant-loop-i
invariant-loop-i g l = record {
  items : l.slots.items ≡ l.fn.slots.items ++ replicate l._i (slot.Cell None);
  room : vec_capacity l.slots ≡ vec_capacity l.fn.slots;
}
