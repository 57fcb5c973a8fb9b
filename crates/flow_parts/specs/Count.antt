-- The component that counts packets: its state, its rule, and what it is ready for.
use Rattle.std.specs.Prelude.{◌≡◌, ℕ, ◌+◌, ◌==◌, Bool, true, false, min, [], if◌then◌else◌, ◌-◌, ◌^◌}
use Rattle.std.specs.Fmt.{decimal}
use Rattle.flow_packet.specs.declared.packet.Kind.{Kind}
use Rattle.flow_packet.specs.declared.packet.Kind.TheVariants.{Normal, Open, Close}
use Rattle.flow_packet.specs.Hands.{kind_at}
use Rattle.flow_packet.specs.Held.{Held, next_id, without_packet, with_made}
use Rattle.flow_component.specs.declared.Answer.{Answer}
use Rattle.flow_component.specs.declared.Answer.TheVariants as answers
use Rattle.flow_component.specs.declared.Port.{Port}
use Rattle.flow_component.specs.declared.Shape.{Shape}
use Rattle.flow_component.specs.declared.Wish.TheVariants.{Send, Deactivate}
use Rattle.flow_component.specs.Laws.{Rules, Outcome, Wishes}
use Rattle.flow_component.specs.Ports.{receive_first, send_first}
use Rattle.flow_component.specs.Alone.{HoldsOnly}

-- Whether its first output is connected, how many Normal packets it got, and whether it has sent its count.
pub record CountState : Type 0 where
  pub connected : Bool
  pub number : ℕ
  pub leaving : Bool

-- One more where the packet is Normal. The number stands still at its greatest value.
abbrev pub one_more : Kind → ℕ → ℕ
one_more Normal n = min (n + 1) (2 ^ 64 - 1)
one_more Open n = n
one_more Close n = n

-- A packet is passed on where the first output is connected, and dropped otherwise.
abbrev pub passes_on : Bool → CountState → Held → ℕ → Outcome CountState
passes_on true state held id = Wishes state held (send_first id)
passes_on false state held id = Wishes state (without_packet held id) receive_first

-- A packet of this kind is counted.
abbrev pub counts : CountState → Held → ℕ → Kind → Outcome CountState
counts state held id kind = passes_on state.connected (record state { number = one_more kind state.number }) held id

-- What comes after a packet was sent.
abbrev pub goes_on : Bool → CountState → Held → Outcome CountState
goes_on true state held = Wishes (record state { leaving = false }) held Deactivate
goes_on false state held = Wishes state held receive_first

-- The output for the number is the second one.
abbrev pub second_port : Port
second_port = record { 0 = 1 }

-- At the end it sends the number, in decimal, and deactivates once it was sent.
abbrev pub count_next : CountState → Held → Answer → Outcome CountState
count_next state held answers.Start = Wishes state held receive_first
count_next state held (answers.Got id) = counts state held id (kind_at held.packets id)
count_next state held answers.End = Wishes (record state { leaving = true }) (with_made held Normal (decimal state.number)) (Send second_port (next_id held))
count_next state held answers.Sent = goes_on state.leaving state held
count_next state held (answers.Level n) = Wishes state held Deactivate

-- It comes to this alone.
abbrev pub CountNext : CountState → Held → Answer → Outcome CountState → Type 0
CountNext state held answer outcome = outcome ≡ count_next state held answer

-- One input and two outputs.
abbrev pub count_shape : Shape
count_shape = record { inputs = 1; outputs = 2 }

-- The first output is used where it is connected, the second always.
abbrev pub count_uses : CountState → ℕ → Bool
count_uses state port = if port == 0 then state.connected else port == 1

-- Between packets its hands are empty.
abbrev pub CountReady : CountState → Held → Answer → Type 0
CountReady state held answers.Start = (state.leaving ≡ false) × (held.packets ≡ [])
CountReady state held (answers.Got id) = (state.leaving ≡ false) × HoldsOnly held id
CountReady state held answers.End = (state.leaving ≡ false) × (held.packets ≡ [])
CountReady state held answers.Sent = held.packets ≡ []
CountReady state held (answers.Level n) = ⊥

-- All that a network knows of it.
abbrev pub count_rules : Rules CountState
count_rules = record { shape = λ _. count_shape; uses = count_uses; ready = CountReady; next = CountNext }
