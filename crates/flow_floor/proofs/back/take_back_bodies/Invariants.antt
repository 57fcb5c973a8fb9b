use Rattle.std.proofs.Common.{◌≡◌, length, take, vec_capacity}
use Rattle.flow_floor.specs.Laying.{AreSameFrom}
use Rattle.flow_floor.proofs.back.take_back_bodies.Given as goal

-- so many were taken
abbrev pub invariant-loop-p : goal.invariant-loop-p
invariant-loop-p g l = record {
  bodies : l.bodies.items ≡ take l.p l.about.value.bodies;
  others : AreSameFrom l.p l.fn.slots.items l.slots.items;
  deep : length l.slots.items ≡ length l.fn.slots.items;
  room : vec_capacity l.bodies ≡ vec_capacity l.fn.bodies;
}
