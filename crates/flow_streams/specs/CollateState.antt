-- The state of a Collate.
use Rattle.std.specs.Prelude.{ℕ, Bool, List}
use Rattle.flow_streams.specs.declared.collate.CollatePlace.{CollatePlace}

-- The lengths of its fields; how many inputs it has; from which input each packet of its hands came, in the order of the hands; whether brackets are open, which
-- they are once a packet was sent; the key of all fields of the packet that was sent before, or that brackets are sent for; and where it stands.
pub record CollateState : Type 0 where
  pub fields : List ℕ
  pub elements : ℕ
  pub owners : List ℕ
  pub opened : Bool
  pub last : List ℕ
  pub place : CollatePlace
