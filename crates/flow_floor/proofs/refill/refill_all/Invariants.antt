use Rattle.std.proofs.Common.{◌≡◌, ℕ, ◌<◌, ◌≤◌, length, slice_get, Some}
use Rattle.std.specs.Mem.Slots.{slots_items, slots_filled, slots_len}
use Rattle.flow_model.specs.Stands.{ChannelShown}
use Rattle.flow_ring.specs.Spaced.{ranked}
use Rattle.flow_floor.specs.Shut.{RestsAs, AreLeft}
use Rattle.flow_floor.proofs.refill.refill_all.Given as goal

-- the connections below have got back what lies there
abbrev pub invariant-loop-connection : goal.invariant-loop-connection
invariant-loop-connection g l = record {
  same : slots_items l.closed.slots ≡ slots_items l.fn.closed.slots;
  long : slots_len l.closed.slots ≡ slots_len l.fn.closed.slots;
  words : l.closed.words ≡ l.fn.closed.words;
  count : length l.channels.items ≡ length l.fn.channels.items;
  left : AreLeft l.layout.processes l.layout.capacities.items l.connection (slots_filled l.closed.slots);
  below : (c : ℕ) (k : ChannelShown) → c < l.connection → RestsAs l.layout.processes l.layout.capacities.items (ranked (slots_items l.fn.closed.words)) (slots_items l.fn.closed.slots) c k → slice_get l.channels.items c ≡ Some k;
  behind : (c : ℕ) → l.connection ≤ c → slice_get l.channels.items c ≡ slice_get l.fn.channels.items c;
}
