use Rattle.std.proofs.Common.{◌≡◌, ℕ, ◌+◌, ◌-◌, ◌<◌, ◌≤◌, Some, get_or, length, slice_get, take}
use Rattle.flow_model.specs.Stands.{ChannelShown}
use Rattle.flow_floor.specs.Opening.{AreSameButCells, IsIn}
use Rattle.flow_ring.specs.Places.{place_slot}
use Rattle.flow_floor.specs.declared.board.Slot.TheVariants as slot
use Rattle.flow_floor.proofs.back.put_back.Given as goal

-- the packets of the places before this one are back
abbrev pub invariant-loop-place : goal.invariant-loop-place
invariant-loop-place g l = record {
  back : (k : ChannelShown) → slice_get l.about.value.channels l.connection ≡ Some k → l.channel ≡ record k { packets = take (l.place - k.takes) k.packets; puts = l.place };
  cells : (k : ChannelShown) → slice_get l.about.value.channels l.connection ≡ Some k → (j : ℕ) → l.place ≤ k.takes + j → j < get_or l.layout.capacities.items l.connection 0
      → IsIn l.slots.items (place_slot l.layout.processes l.layout.capacities.items l.connection (k.takes + j)) (slot.Cell (slice_get k.packets j));
  others : AreSameButCells l.layout.processes l.layout.capacities.items l.connection l.fn.slots.items l.slots.items;
  deep : length l.slots.items ≡ length l.fn.slots.items;
}
