-- The turns that a seat has made of the process that it holds and that aren't stamped.
use Rattle.std.specs.Prelude.{◌≡◌, ℕ, ◌+◌, List, [], ◌∷◌, ◌++◌, Some, None, Option}
use Rattle.flow_component.specs.Laws.{Rules}
use Rattle.flow_model.specs.Turns.{change_of}
use Rattle.flow_machine.specs.FitNets.{FitNet}
use Rattle.flow_machine.specs.Values.{BodyValue, NetValue}
use Rattle.flow_floor.specs.Law.{Rests}
use Rattle.flow_floor.specs.Turning.{MachineTurn, MayChange, Happens}
use Rattle.flow_floor.specs.declared.board.View.{View}
use Rattle.flow_floor.specs.Views.{Move, moved, held_after, turning}

module _ {K : Type 0} where
  -- The seat with this view may make this turn: its process, which the machine has with some body, makes it after the thought that is to come, wherever
  -- the connections are as the seat knows; and the seat has come to the end that the turn changes. Here n is the number of processes, m that of
  -- connections.
  pub record May (rules : Rules K) (n m : ℕ) (v : View K) (t : Move K) : Type 0 where
    pub process : ℕ
    pub before : BodyValue K
    pub held : v.held ≡ Some (process, before)
    pub rests : Rests rules before (moved before t.body)
    pub ends : MayChange (change_of t.event) v.sending v.receiving
    pub happens : Happens (FitNet rules) n m process (moved before t.body) v.sending v.receiving v.seen t.event

  -- It may make these turns, one after another, with the stamps from r on.
  abbrev pub MayFrom : Rules K → ℕ → ℕ → View K → ℕ → List (Move K) → Type 0
  MayFrom rules n m v r [] = Unit {0}
  MayFrom rules n m v r (t ∷ turns) = May rules n m v t × MayFrom rules n m (turning v r t) (r + 1) turns

  -- It may make them whatever stamps they get.
  abbrev pub AllMay : Rules K → ℕ → ℕ → View K → List (Move K) → Type 0
  AllMay rules n m v turns = (r : ℕ) → MayFrom rules n m v r turns

  -- Each of these turns of process p is the machine's turn of its stamp, the first of which is r, by a seat that had made the turns `made` before.
  abbrev pub MachineTurns : Rules K → NetValue K → List (ℕ × ℕ) → ℕ → Option (ℕ × BodyValue K) → List (Move K) → Type 0
  MachineTurns rules start made r held [] = Unit {0}
  MachineTurns rules start made r None (t ∷ turns) = Unit {0}
  MachineTurns rules start made r (Some held) (t ∷ turns) =
      MachineTurn rules start made r held.0 (moved held.1 t.body) t.event × MachineTurns rules start (made ++ (r, held.0) ∷ []) (r + 1) (held_after t r (Some held)) turns
