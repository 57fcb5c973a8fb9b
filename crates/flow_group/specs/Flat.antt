-- The component that takes brackets off: it drops them, and passes the other packets on. It has no state of its own.
use Rattle.std.specs.Prelude.{◌≡◌, ℕ, Bool, true, false, []}
use Rattle.flow_packet.specs.declared.packet.Kind.{Kind}
use Rattle.flow_packet.specs.declared.packet.Kind.TheVariants.{Normal, Open, Close}
use Rattle.flow_packet.specs.Hands.{kind_at}
use Rattle.flow_packet.specs.Held.{Held, without_packet}
use Rattle.flow_component.specs.declared.Answer.{Answer}
use Rattle.flow_component.specs.declared.Answer.TheVariants as answers
use Rattle.flow_component.specs.declared.Wish.TheVariants.{Deactivate}
use Rattle.flow_component.specs.Alone.{HoldsOnly}
use Rattle.flow_component.specs.Laws.{Rules, Outcome, Wishes}
use Rattle.flow_component.specs.Ports.{one_to_one, uses_first, receive_first, send_first}

-- A packet of this kind comes: a Normal one is passed on, a bracket is dropped.
abbrev pub takes_off : {K : Type 0} → K → Held → ℕ → Kind → Outcome K
takes_off component held id Normal = Wishes component held (send_first id)
takes_off component held id Open = Wishes component (without_packet held id) receive_first
takes_off component held id Close = Wishes component (without_packet held id) receive_first

-- The rule, by what it is told.
abbrev pub flat_next : {K : Type 0} → K → Held → Answer → Outcome K
flat_next component held answers.Start = Wishes component held receive_first
flat_next component held (answers.Got id) = takes_off component held id (kind_at held.packets id)
flat_next component held answers.End = Wishes component held Deactivate
flat_next component held answers.Sent = Wishes component held receive_first
flat_next component held (answers.Level n) = Wishes component held Deactivate

-- Between packets its hands are empty.
abbrev pub IsFlatReady : Held → Answer → Type 0
IsFlatReady held answers.Start = held.packets ≡ []
IsFlatReady held (answers.Got id) = HoldsOnly held id
IsFlatReady held answers.End = held.packets ≡ []
IsFlatReady held answers.Sent = held.packets ≡ []
IsFlatReady held (answers.Level n) = ⊥

-- All that a network knows of it.
abbrev pub flat_rules : {K : Type 0} → Rules K
flat_rules = record {
  shape = λ _. one_to_one;
  uses = λ _. uses_first;
  ready = λ _. IsFlatReady;
  next = λ component held answer outcome. outcome ≡ flat_next component held answer;
}

-- It is a Normal kind, and no bracket's.
abbrev pub is_plain : Kind → Bool
is_plain Normal = true
is_plain Open = false
is_plain Close = false
