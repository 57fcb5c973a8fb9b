-- The room that is taken before it is used.
use Rattle.std.specs.Prelude.{ℕ, ◌≤◌}

-- The places of a connection's capacity are there, and as many packets were put as there are in it.
pub record HasPlaces (capacity places level puts : ℕ) : Type 0 where
  pub room : capacity ≤ places
  pub counted : level ≤ puts
