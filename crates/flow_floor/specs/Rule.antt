-- The rule of the table.
use Rattle.atomic_table.specs.Table.{State}
use Rattle.flow_component.specs.Laws.{Rules}
use Rattle.flow_machine.specs.Values.{NetValue}
use Rattle.flow_machine.specs.Joins.{IsPlanned}
use Rattle.flow_ring.specs.Spaced.{ranked}
use Rattle.flow_floor.specs.Waking.{AllRetired, Wakes}
use Rattle.flow_floor.specs.declared.board.Slot.{Slot}
use Rattle.flow_floor.specs.declared.board.View.{View}
use Rattle.flow_floor.specs.Law.{Beside, Flow}

-- The table with its words side by side, in their order.
abbrev pub in_order : {S V : Type 0} → State S V → State S V
in_order s = record { words = ranked s.words; homes = s.homes; views = s.views }

-- The rule of words that lie side by side, of a floor on which a net was opened, whose connections are a valid plan's.
pub record Law {K : Type 0} (rules : Rules K) (start : NetValue K) (s : State (Slot K) (View K)) : Type 0 where
  pub beside : Beside K
  pub planned : IsPlanned start
  pub flow : Flow rules start s beside
  pub wakes : Wakes start s beside
  pub done : AllRetired s.words beside.now.bodies

-- The rule of the table, whose words lie apart: that of its words in their order.
abbrev pub TableLaw : {K : Type 0} → Rules K → NetValue K → State (Slot K) (View K) → Type 0
TableLaw rules start s = Law rules start (in_order s)
