-- What a kind means, as one record, and how often a process is activated.
use Rattle.std.specs.Prelude.{ℕ, min, max, Bool, true, false, List, [], ◌∷◌, Option, Some, None}
use Rattle.flow_packet.specs.Tree.{Tree}

-- What a component in this state means: whether the state is its first one; whether it is a looper, that is works to the ends of its inputs once it is activated;
-- whether what it sends follows from what it gets; and what it makes of its streams: the bytes that it has written, the streams that came at its inputs and those
-- that left at its outputs.
pub record Meaning : Type 1 where
  pub first : Type 0
  pub loops : Bool
  pub settled : Bool
  pub makes : List ℕ → (ℕ → List Tree) → (ℕ → List Tree) → Type 0

-- The greater of two numbers of packets, of which either may not be there.
abbrev pub higher : Option ℕ → Option ℕ → Option ℕ
higher None n = n
higher (Some n) None = Some n
higher (Some n) (Some m) = Some (max n m)

-- The greatest of the numbers that are there, if any is.
abbrev pub greatest : List (Option ℕ) → Option ℕ
greatest [] = None
greatest (n ∷ ns) = higher n (greatest ns)

-- How often a process is activated, where this is the greatest number of packets that came by one of its connections: once where it has no connected input;
-- otherwise a looper once, if anything came, and a component that takes a packet of each input in an activation once for each packet.
abbrev pub activations : Bool → Option ℕ → ℕ
activations loops None = 1
activations true (Some n) = min n 1
activations false (Some n) = n
