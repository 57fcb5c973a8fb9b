-- What is left to do once a worker has read 0: nothing.
use Rattle.std.specs.Prelude.{◌≡◌, ℕ, ◌⊎◌, true, List, Some, None, slice_get, slice_index}
use mathlib.Core.Option.{some}
use lib.ListN.{get_elem?}
use Rattle.atomic_table.specs.Table.{State}
use Rattle.flow_component.specs.Laws.{Rules}
use Rattle.flow_model.specs.Events.{event_from}
use Rattle.flow_model.specs.Stages.{IsThoughtStage}
use Rattle.flow_machine.specs.Quiet.{EndedAreTold}
use Rattle.flow_machine.specs.Thoughts.{IsUnset}
use Rattle.flow_machine.specs.Values.{BodyValue, NetValue}
use Rattle.flow_machine.specs.Nets.{looks_of}
use Rattle.flow_floor.specs.Rule.{in_order, Law}
use Rattle.flow_floor.specs.Waking.{IsDoneWord}
use Rattle.flow_floor.specs.declared.board.Slot.{Slot}
use Rattle.flow_floor.specs.declared.board.View.{View}

module _ {K : Type 0} where
  -- No work of the process is pending, and it has no turn, whatever level it would be told.
  abbrev pub IsStill : NetValue K → BodyValue K → Type 0
  IsStill now b = IsThoughtStage b.process.stage × ((level : ℕ) → event_from (looks_of now.channels) b.process level ≡ None)

-- Nobody has anything to do, where these are the words, the views of the seats, and the machine's net: no seat holds a process; each process is
-- still, or it is starved: its word says that it is done, and it isn't set; and each that has ended or failed was told its end.
pub record IsAllStill {K : Type 0} (words : List ℕ) (views : List (View K)) (now : NetValue K) : Type 0 where
  pub idle : (j : ℕ) (v : View K) → get_elem? views j ≡ some v → v.held ≡ None
  pub still : (q : ℕ) (b : BodyValue K) → slice_get now.bodies q ≡ Some b → IsStill now b ⊎ (IsDoneWord (slice_index words q) × IsUnset b)
  pub told : EndedAreTold now

-- Whatever state the table of a floor is in, where one seat has read 0 nobody has anything to do. A seat that has read 0 has read it in each later state.
abbrev pub StandsStillAtZero : {K : Type 0} → Rules K → Type 0
StandsStillAtZero {K} rules = (start : NetValue K) (s : State (Slot K) (View K)) (law : Law rules start (in_order s)) (j : ℕ) (v : View K) → get_elem? s.views j ≡ some v → v.read_zero ≡ true → IsAllStill (in_order s).words s.views law.beside.now
