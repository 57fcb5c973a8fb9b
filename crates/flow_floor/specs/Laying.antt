-- How far the slots of a floor are laid, or taken back. Here n is the number of its processes, and `capacities` has the capacity of each connection.
use Rattle.std.specs.Prelude.{◌≡◌, ℕ, ◌<◌, ◌≤◌, List, [], Some, slice_get}
use lib.ListN.{get_elem?}
use Rattle.flow_model.specs.Stands.{ChannelShown}
use Rattle.flow_floor.specs.declared.board.Slot.{Slot}
use Rattle.flow_floor.specs.Opening.{HasPackets}

module _ {K : Type 0} where
  -- Of these connections the first ones, which are so many, have their packets in their cells, and the cells of the others are empty.
  abbrev pub AreLaid : ℕ → List ℕ → List ChannelShown → ℕ → List (Slot K) → Type 0
  AreLaid n capacities channels count xs = (c : ℕ) (k : ChannelShown) → slice_get channels c ≡ Some k → (c < count → HasPackets n capacities xs c k k.packets) × (count ≤ c → HasPackets n capacities xs c k [])

  -- All of them but the first ones have their packets in their cells.
  abbrev pub AreLaidFrom : ℕ → List ℕ → List ChannelShown → ℕ → List (Slot K) → Type 0
  AreLaidFrom n capacities channels count xs = (c : ℕ) (k : ChannelShown) → slice_get channels c ≡ Some k → count ≤ c → HasPackets n capacities xs c k k.packets

  -- The first slots, which are so many, are the same.
  abbrev pub AreSameBelow : ℕ → List (Slot K) → List (Slot K) → Type 0
  AreSameBelow count xs ys = (x : ℕ) → x < count → get_elem? ys x ≡ get_elem? xs x

  -- All others are the same.
  abbrev pub AreSameFrom : ℕ → List (Slot K) → List (Slot K) → Type 0
  AreSameFrom count xs ys = (x : ℕ) → count ≤ x → get_elem? ys x ≡ get_elem? xs x
