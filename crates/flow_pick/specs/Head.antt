-- The component that passes the first packets of each stretch on: its state, its rule, and what it makes of a stream. (The command head,
-- told of streams with substreams; the rule is this project's own.)
use Rattle.std.specs.Prelude.{ℕ, ◌+◌, Bool, true, ◌||◌, List, nat_lt, if◌then◌else◌}
use Rattle.flow_packet.specs.declared.packet.Kind.{Kind}
use Rattle.flow_packet.specs.declared.packet.Kind.TheVariants.{Normal, Open, Close}
use Rattle.flow_packet.specs.Tree.{kind_of}
use Rattle.flow_packet.specs.Held.{Held}
use Rattle.flow_component.specs.declared.Answer.{Answer}
use Rattle.flow_component.specs.Laws.{Rules, Outcome}
use Rattle.flow_pick.specs.Picking.{Picker, picker_next, picker_rules}
use Rattle.flow_pick.specs.Places.{Place, is_bracket, stretch}

-- How many packets of a stretch it passes on at most; whether its second output is connected; and how many of this stretch were passed on.
pub record HeadState : Type 0 where
  pub count : ℕ
  pub rest : Bool
  pub passed : ℕ

-- The first Normal packets of a stretch are picked, and brackets are.
abbrev pub head_picks : HeadState → Kind → List ℕ → Bool
head_picks state Normal text = nat_lt state.passed state.count
head_picks state Open text = true
head_picks state Close text = true

-- What is passed on is counted, and a bracket begins a stretch.
abbrev pub head_after : HeadState → Kind → List ℕ → HeadState
head_after state Normal text = record state { passed = if nat_lt state.passed state.count then state.passed + 1 else state.passed }
head_after state Open text = record state { passed = 0 }
head_after state Close text = record state { passed = 0 }

-- How a Head picks.
abbrev pub head_picker : Picker HeadState
head_picker = record { connected = λ state. state.rest; picks = head_picks; after = head_after }

-- The rule.
abbrev pub head_next : HeadState → Held → Answer → Outcome HeadState
head_next state held answer = picker_next head_picker state held answer

-- All that a network knows of it.
abbrev pub head_rules : Rules HeadState
head_rules = picker_rules head_picker

-- A bracket, or a Normal packet before which fewer than so many stand in its stretch.
abbrev pub is_among_first : ℕ → Place → Bool
is_among_first count place = is_bracket (kind_of place.packet) || nat_lt (stretch place.earlier) count

-- A Head at its start.
abbrev pub fresh_head : ℕ → Bool → HeadState
fresh_head count rest = record { count = count; rest = rest; passed = 0 }
