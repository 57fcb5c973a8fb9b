-- Where an Update stands in its stream.
use Rattle.std.specs.Prelude.{ℕ, Bool, List, Option}

-- Outside of all groups; or in the group of a key, which has come to this balance.
pub data Around : Type 0 where
  Outside : Around
  InGroup : (key : List ℕ) → (balance : Option ℕ) → Around

-- How long keys are, whether the second output is connected, and where it stands.
pub record UpdateState : Type 0 where
  pub keylen : ℕ
  pub rep : Bool
  pub around : Around
