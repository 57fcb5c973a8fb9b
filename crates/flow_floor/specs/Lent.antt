-- How the slot changes that a seat took last.
use Rattle.std.specs.Prelude.{◌≡◌, ℕ, ◌∷◌}
use Rattle.atomic_table.specs.declared.shared.Seat.{Seat}
use Rattle.atomic_table.specs.Table.{rest}
use Rattle.flow_floor.specs.declared.board.Slot.{Slot}
use Rattle.flow_floor.specs.declared.board.View.{View}

-- The slot i, which the seat took last, had the one and has the other now, and nothing else of the seat has changed.
pub record Changes {K : Type 0} (old new : Seat (Slot K) (View K)) (i : ℕ) (had has : Slot K) : Type 0 where
  pub table : new.table_id ≡ old.table_id
  pub id : new.id ≡ old.id
  pub found : old.me.1 ≡ (i, had) ∷ rest old.me.1
  pub me : new.me ≡ (old.me.0, (i, has) ∷ rest old.me.1)
