-- The state of a Tail.
use Rattle.std.specs.Prelude.{ℕ, Bool}
use Rattle.flow_pick.specs.declared.tail.TailPlace.{TailPlace}

-- How many packets of a stretch it passes on at most; whether its second output is connected; and where it stands.
pub record TailState : Type 0 where
  pub count : ℕ
  pub rest : Bool
  pub place : TailPlace
