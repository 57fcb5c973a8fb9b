-- Bare packets stand in the places of those that were taken.
use Rattle.std.specs.Prelude.{◌≡◌, ℕ, List, [], slice_set}
use Rattle.flow_packet.specs.Tree.{Tree, chains_of}

-- The packet has no chains.
abbrev pub IsBare : Tree → Type 0
IsBare t = chains_of t ≡ []

-- The packet at the place is a bare one afterwards, and the others stay.
pub record LeavesBare (old new : List Tree) (place : ℕ) : Type 0 where
  pub bare : Tree
  pub is_bare : IsBare bare
  pub others : new ≡ slice_set old place bare
