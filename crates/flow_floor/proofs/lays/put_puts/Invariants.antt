use Rattle.std.proofs.Common.{◌≡◌, ◌++◌, map, take, vec_capacity}
use Rattle.flow_floor.specs.declared.board.Slot.TheVariants as slot
use Rattle.flow_floor.proofs.lays.put_puts.Given as goal

-- so many were put
abbrev pub invariant-loop-c : goal.invariant-loop-c
invariant-loop-c g l = record {
  items : l.slots.items ≡ l.fn.slots.items ++ map (λ k. slot.Count k.puts) (take l.c l.channels);
  room : vec_capacity l.slots ≡ vec_capacity l.fn.slots;
}
