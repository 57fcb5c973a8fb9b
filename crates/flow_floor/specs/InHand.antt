-- The body that a worker has in hand, while the turns that it has made of it aren't stamped.
use Rattle.std.specs.Prelude.{◌≡◌, ℕ, ◌≤◌, List, length, Option, Some, None}
use Rattle.flow_component.specs.Laws.{Rules}
use Rattle.flow_machine.specs.Stamps.{restamped}
use Rattle.flow_machine.specs.Values.{BodyValue}
use Rattle.flow_floor.specs.Law.{Rests}
use Rattle.flow_floor.specs.declared.board.View.{View}
use Rattle.flow_floor.specs.Pending.{AllMay}
use Rattle.flow_floor.specs.Plays.{placed_count, drawn_count}
use Rattle.flow_floor.specs.Views.{Move, all_turned}

module _ {K : Type 0} where
  -- A body whose last turns, which are so many, have the stamps from r on.
  abbrev pub stamped_from : ℕ → ℕ → BodyValue K → BodyValue K
  stamped_from count r body = record body { stamps = restamped count r body.stamps }

  -- What is held is process p, with this body, or with one from which this body comes by the work that was still to come.
  abbrev pub IsHeldAs : Rules K → ℕ → BodyValue K → Option (ℕ × BodyValue K) → Type 0
  IsHeldAs rules p body held = (before : BodyValue K) × (held ≡ Some (p, before)) × Rests rules before body

  -- No packet that the seat drew or placed is left for a turn to come.
  abbrev pub HasNoneLeft : View K → Type 0
  HasNoneLeft v = (drawn_count v.receiving ≡ 0) × (placed_count v.sending ≡ 0)

  -- The seat with this view holds process p, has made these turns of it, which aren't stamped, and has this body in hand. It may make them whatever
  -- stamps they get, and they use all that it drew and placed. With the stamps from r on, the machine has the body in hand after them, once the last
  -- stamps of that, which are as many as the turns, are those. Here n is the number of processes, m that of connections.
  pub record IsPending (rules : Rules K) (n m : ℕ) (v : View K) (turns : List (Move K)) (p : ℕ) (body : BodyValue K) : Type 0 where
    pub may : AllMay rules n m v turns
    pub used : (r : ℕ) → HasNoneLeft (all_turned v r turns)
    pub whole : body.leaving ≡ None
    pub stamped : length turns ≤ length body.stamps
    pub held : (r : ℕ) → IsHeldAs rules p (stamped_from (length turns) r body) (all_turned v r turns).held
