-- Components that pick: a packet that comes is passed on to the first output at once, or else to the second one, or dropped where that
-- isn't connected. Which packets are picked is each kind's own.
use Rattle.std.specs.Prelude.{◌≡◌, ℕ, ◌==◌, Bool, true, false, List, [], if◌then◌else◌}
use Rattle.flow_packet.specs.declared.packet.Kind.{Kind}
use Rattle.flow_packet.specs.Hands.{kind_at, text_at}
use Rattle.flow_packet.specs.Held.{Held, without_packet}
use Rattle.flow_component.specs.declared.Answer.{Answer}
use Rattle.flow_component.specs.declared.Answer.TheVariants as answers
use Rattle.flow_component.specs.declared.Port.{Port}
use Rattle.flow_component.specs.declared.Shape.{Shape}
use Rattle.flow_component.specs.declared.Wish.TheVariants.{Send, Deactivate}
use Rattle.flow_component.specs.Laws.{Rules, Outcome, Wishes}
use Rattle.flow_component.specs.Ports.{receive_first, send_first}
use Rattle.flow_component.specs.Alone.{HoldsOnly}

-- How a component picks.
pub record Picker (K : Type 0) : Type 0 where
  -- Its second output is connected.
  pub connected : K → Bool
  -- It picks a packet of this kind with this text.
  pub picks : K → Kind → List ℕ → Bool
  -- What it has become behind that packet.
  pub after : K → Kind → List ℕ → K

-- The output for the packets that aren't picked is the second one.
abbrev pub second_port : Port
second_port = record { 0 = 1 }

-- A packet that isn't picked is passed on where the second output is connected, and dropped otherwise.
abbrev pub leaves : {K : Type 0} → Bool → K → Held → ℕ → Outcome K
leaves true component held id = Wishes component held (Send second_port id)
leaves false component held id = Wishes component (without_packet held id) receive_first

-- A packet is picked, or isn't.
abbrev pub parts : {K : Type 0} → Bool → Bool → K → Held → ℕ → Outcome K
parts true connected component held id = Wishes component held (send_first id)
parts false connected component held id = leaves connected component held id

-- A packet of this kind with this text comes.
abbrev pub meets : {K : Type 0} → Picker K → K → Held → ℕ → Kind → List ℕ → Outcome K
meets picker component held id kind text = parts (picker.picks component kind text) (picker.connected component) (picker.after component kind text) held id

-- The rule, by what it is told.
abbrev pub picker_next : {K : Type 0} → Picker K → K → Held → Answer → Outcome K
picker_next picker component held answers.Start = Wishes component held receive_first
picker_next picker component held (answers.Got id) = meets picker component held id (kind_at held.packets id) (text_at held.packets id)
picker_next picker component held answers.End = Wishes component held Deactivate
picker_next picker component held answers.Sent = Wishes component held receive_first
picker_next picker component held (answers.Level n) = Wishes component held Deactivate

-- One input and two outputs.
abbrev pub parting_shape : Shape
parting_shape = record { inputs = 1; outputs = 2 }

-- The first output is used always, the second where it is connected.
abbrev pub parting_uses : Bool → ℕ → Bool
parting_uses connected port = if port == 1 then connected else port == 0

-- Between packets its hands are empty.
abbrev pub IsPicking : Held → Answer → Type 0
IsPicking held answers.Start = held.packets ≡ []
IsPicking held (answers.Got id) = HoldsOnly held id
IsPicking held answers.End = held.packets ≡ []
IsPicking held answers.Sent = held.packets ≡ []
IsPicking held (answers.Level n) = ⊥

-- All that a network knows of it.
abbrev pub picker_rules : {K : Type 0} → Picker K → Rules K
picker_rules picker = record {
  shape = λ _. parting_shape;
  uses = λ component. parting_uses (picker.connected component);
  ready = λ _. IsPicking;
  next = λ component held answer outcome. outcome ≡ picker_next picker component held answer;
}
