-- The component that parts packets by the numbers that their texts are: its state, and its rule. (The rule is this project's own.)
use Rattle.std.specs.Prelude.{Bool, true, false, List, ℕ, Result, Ok, Err}
use Rattle.flow_packet.specs.declared.packet.Kind.{Kind}
use Rattle.flow_packet.specs.declared.packet.Kind.TheVariants.{Normal, Open, Close}
use Rattle.flow_component.specs.Laws.{Rules}
use Rattle.flow_decimal.specs.declared.bound.Bound.{Bound}
use Rattle.flow_decimal.specs.declared.decimal.Decimal.{Decimal}
use Rattle.flow_decimal.specs.declared.decimal.NumberStop.{NumberStop}
use Rattle.flow_decimal.specs.Numbers.{reading}
use Rattle.flow_decimal.specs.Bounds.{bound_holds}
use Rattle.flow_pick.specs.Picking.{Picker, picker_rules}

-- Its bound, and whether its second output is connected.
pub record WhereState : Type 0 where
  pub bound : Bound
  pub rejects : Bool

-- The bound holds for a number that was read. For what is none it doesn't.
abbrev pub holds_for : Bound → Result Decimal NumberStop → Bool
holds_for bound (Ok number) = bound_holds bound number
holds_for bound (Err stop) = false

-- The text is a number for which the bound holds.
abbrev pub is_within : Bound → List ℕ → Bool
is_within bound text = holds_for bound (reading text)

-- A Normal packet is accepted where its text is such a number; brackets are.
abbrev pub accepts : Bound → Kind → List ℕ → Bool
accepts bound Normal text = is_within bound text
accepts bound Open text = true
accepts bound Close text = true

-- How a Where picks. It stays as it is.
abbrev pub where_picker : Picker WhereState
where_picker = record { connected = λ state. state.rejects; picks = λ state. accepts state.bound; after = λ state kind text. state }

-- All that a network knows of it.
abbrev pub where_rules : Rules WhereState
where_rules = picker_rules where_picker
