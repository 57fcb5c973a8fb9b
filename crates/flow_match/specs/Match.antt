-- The component that accepts packets in whose text a pattern matches: its state, its rule, and what it is ready for.
use Rattle.std.specs.Prelude.{◌≡◌, ℕ, ◌==◌, Bool, true, false, List, [], if◌then◌else◌}
use Rattle.flow_packet.specs.declared.packet.Kind.{Kind}
use Rattle.flow_packet.specs.declared.packet.Kind.TheVariants.{Normal, Open, Close}
use Rattle.flow_packet.specs.Hands.{kind_at, text_at}
use Rattle.flow_packet.specs.Held.{Held, without_packet}
use Rattle.flow_component.specs.declared.Answer.{Answer}
use Rattle.flow_component.specs.declared.Answer.TheVariants as answers
use Rattle.flow_component.specs.declared.Port.{Port}
use Rattle.flow_component.specs.declared.Shape.{Shape}
use Rattle.flow_component.specs.declared.Wish.TheVariants.{Send, Deactivate}
use Rattle.flow_component.specs.Laws.{Rules, Outcome, Wishes}
use Rattle.flow_component.specs.Ports.{receive_first, send_first}
use Rattle.flow_component.specs.Alone.{HoldsOnly}
use Rattle.flow_pattern.specs.Pattern.{matches}

-- Its pattern, and whether its second output is connected.
pub record MatchState : Type 0 where
  pub pattern : List ℕ
  pub rejects : Bool

-- The output of what is rejected is the second one.
abbrev pub second_port : Port
second_port = record { 0 = 1 }

-- A packet that is rejected is passed on where the second output is connected, and dropped otherwise.
abbrev pub rejects_packet : Bool → MatchState → Held → ℕ → Outcome MatchState
rejects_packet true state held id = Wishes state held (Send second_port id)
rejects_packet false state held id = Wishes state (without_packet held id) receive_first

-- A packet is accepted or rejected.
abbrev pub judges : Bool → MatchState → Held → ℕ → Outcome MatchState
judges true state held id = Wishes state held (send_first id)
judges false state held id = rejects_packet state.rejects state held id

-- A Normal packet is accepted where the pattern matches somewhere in its text. A bracket is accepted always.
abbrev pub comes : MatchState → Held → ℕ → Kind → Outcome MatchState
comes state held id Normal = judges (matches state.pattern (text_at held.packets id)) state held id
comes state held id Open = judges true state held id
comes state held id Close = judges true state held id

-- The rule, by what it is told.
abbrev pub match_next : MatchState → Held → Answer → Outcome MatchState
match_next state held answers.Start = Wishes state held receive_first
match_next state held (answers.Got id) = comes state held id (kind_at held.packets id)
match_next state held answers.End = Wishes state held Deactivate
match_next state held answers.Sent = Wishes state held receive_first
match_next state held (answers.Level n) = Wishes state held Deactivate

-- It comes to this alone.
abbrev pub MatchNext : MatchState → Held → Answer → Outcome MatchState → Type 0
MatchNext state held answer outcome = outcome ≡ match_next state held answer

-- One input and two outputs.
abbrev pub match_shape : Shape
match_shape = record { inputs = 1; outputs = 2 }

-- The first output is used always, the second where it is connected.
abbrev pub match_uses : MatchState → ℕ → Bool
match_uses state port = if port == 1 then state.rejects else port == 0

-- Between packets its hands are empty.
abbrev pub MatchReady : MatchState → Held → Answer → Type 0
MatchReady state held answers.Start = held.packets ≡ []
MatchReady state held (answers.Got id) = HoldsOnly held id
MatchReady state held answers.End = held.packets ≡ []
MatchReady state held answers.Sent = held.packets ≡ []
MatchReady state held (answers.Level n) = ⊥

-- All that a network knows of it.
abbrev pub match_rules : Rules MatchState
match_rules = record { shape = λ _. match_shape; uses = match_uses; ready = MatchReady; next = MatchNext }
