-- The component that passes on one input after another.
use Rattle.std.specs.Prelude.{◌≡◌, ℕ, ◌+◌, ◌<◌, Bool, true, false, [], nat_lt}
use Rattle.flow_packet.specs.Held.{Held}
use Rattle.flow_component.specs.declared.Answer.{Answer}
use Rattle.flow_component.specs.declared.Answer.TheVariants as answers
use Rattle.flow_component.specs.declared.Wish.{Wish}
use Rattle.flow_component.specs.declared.Wish.TheVariants.{Receive, Deactivate}
use Rattle.flow_component.specs.declared.Shape.{Shape}
use Rattle.flow_component.specs.Laws.{Rules, Outcome, Wishes}
use Rattle.flow_component.specs.Ports.{uses_first, send_first}
use Rattle.flow_component.specs.Alone.{HoldsOnly}

-- How many inputs it has, and the one that it has come to.
pub record ConcatState : Type 0 where
  pub count : ℕ
  pub at : ℕ

-- The wish to receive from an element.
abbrev pub receive_at : ℕ → Wish
receive_at port = Receive (record { 0 = port })

-- After the end of an input it goes on to the next, if there is one.
abbrev pub ends : Bool → ConcatState → Held → Outcome ConcatState
ends true state held = Wishes (record state { at = state.at + 1 }) held (receive_at (state.at + 1))
ends false state held = Wishes state held Deactivate

-- The rule: everything from one element, and then from the next.
abbrev pub concat_next : ConcatState → Held → Answer → Outcome ConcatState
concat_next state held answers.Start = Wishes state held (receive_at state.at)
concat_next state held (answers.Got id) = Wishes state held (send_first id)
concat_next state held answers.End = ends (nat_lt (state.at + 1) state.count) state held
concat_next state held answers.Sent = Wishes state held (receive_at state.at)
concat_next state held (answers.Level n) = Wishes state held Deactivate

-- The rule as a relation.
abbrev pub ConcatNext : ConcatState → Held → Answer → Outcome ConcatState → Type 0
ConcatNext state held answer outcome = outcome ≡ concat_next state held answer

-- As many inputs as its state says, and one output.
abbrev pub concat_shape : ConcatState → Shape
concat_shape state = record { inputs = state.count; outputs = 1 }

-- Between packets its hands are empty.
abbrev pub ConcatReady : ConcatState → Held → Answer → Type 0
ConcatReady state held answers.Start = (state.at < state.count) × (held.packets ≡ [])
ConcatReady state held (answers.Got id) = (state.at < state.count) × HoldsOnly held id
ConcatReady state held answers.End = (state.at < state.count) × (held.packets ≡ [])
ConcatReady state held answers.Sent = (state.at < state.count) × (held.packets ≡ [])
ConcatReady state held (answers.Level n) = ⊥

-- All that a network knows of it.
abbrev pub concat_rules : Rules ConcatState
concat_rules = record { shape = concat_shape; uses = λ _. uses_first; ready = ConcatReady; next = ConcatNext }
