-- Packets in ascending order of their keys.
use Rattle.std.specs.Prelude.{◌≡◌, ℕ, Bool, List, take, Option, Some, None}
use Rattle.std.specs.Ordering.{nat_cmp, is_lt}
use Rattle.std.specs.Cmp.Lexicographic.{slice_cmp}
use Rattle.std.specs.List.Sorted.{IsPermutation, IsSortedBy, IsStableBy}
use Rattle.flow_packet.specs.Tree.{Tree, text_of, chain_at, chains_of, with_chains, refill}
use Rattle.flow_packet.specs.Hands.{Holding, chain_of_root, reordered}

-- The key of a packet: its whole text, or the first bytes of it, as many as are asked for; the whole text where it is shorter.
abbrev pub sort_key : Option ℕ → Tree → List ℕ
sort_key None packet = text_of packet
sort_key (Some bytes) packet = take bytes (text_of packet)

-- The key of a packet is less, by bytes, than that of another.
abbrev pub is_less : Option ℕ → Tree → Tree → Bool
is_less bytes t u = is_lt (slice_cmp nat_cmp (sort_key bytes t) (sort_key bytes u))

-- The packets afterwards are those of before, their keys ascend, and packets with one key stand in the order in which they stood.
pub record IsStableSort (bytes : Option ℕ) (before after : List Tree) : Type 0 where
  pub same : IsPermutation before after
  pub ascending : IsSortedBy (is_less bytes) after
  pub stable : IsStableBy (is_less bytes) before after

-- A packet whose chain of this name is sorted, and that is otherwise as before.
pub record ChainSorted (bytes : Option ℕ) (name : List ℕ) (old new : Tree) : Type 0 where
  pub order : List Tree
  pub sorts : IsStableSort bytes (chain_at (chains_of old) name) order
  pub only : new ≡ with_chains old (refill (chains_of old) name order)

-- Hands where that chain of the packet at the root is sorted, and that are otherwise as before.
pub record RootSorted (bytes : Option ℕ) (root : ℕ) (name : List ℕ) (old new : Holding) : Type 0 where
  pub order : List Tree
  pub sorts : IsStableSort bytes (chain_of_root old.packets root name) order
  pub only : new ≡ record old { packets = reordered old.packets root name order }
