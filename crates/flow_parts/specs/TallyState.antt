-- The state of a Tally.
use Rattle.std.specs.Prelude.{ℕ, List}
use Rattle.flow_parts.specs.declared.tally.TallyPlace.{TallyPlace}

-- What a Tally keeps of the row in hand: how many packets it has, none where there is no row, and their text; and what is to be done once a row was told.
pub record TallyState : Type 0 where
  pub times : ℕ
  pub text : List ℕ
  pub place : TallyPlace
