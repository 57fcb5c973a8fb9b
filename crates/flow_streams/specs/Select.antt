-- The component that accepts packets whose text begins with a key: its state, its rule, and what it is ready for.
use Rattle.std.specs.Prelude.{◌≡◌, ℕ, ◌==◌, nat_eq, Bool, [], if◌then◌else◌}
use Rattle.std.specs.List.{starts_with}
use Rattle.flow_packet.specs.declared.packet.Kind.{Kind}
use Rattle.flow_packet.specs.declared.packet.Kind.TheVariants.{Normal, Open, Close}
use Rattle.flow_packet.specs.Hands.{kind_at, text_at}
use Rattle.flow_packet.specs.Held.{Held, without_packet}
use Rattle.flow_component.specs.declared.Answer.{Answer}
use Rattle.flow_component.specs.declared.Answer.TheVariants as answers
use Rattle.flow_component.specs.declared.Fail.TheVariants.{BracketIn}
use Rattle.flow_component.specs.declared.Port.{Port}
use Rattle.flow_component.specs.declared.Shape.{Shape}
use Rattle.flow_component.specs.declared.Wish.TheVariants.{Receive, Send, Deactivate}
use Rattle.flow_component.specs.Laws.{Rules, Outcome, Wishes, Fails}
use Rattle.flow_component.specs.Alone.{HoldsOnly}
use Rattle.flow_streams.specs.Bundle.{HoldsTwo}
use Rattle.flow_streams.specs.declared.select.SelectPlace.{SelectPlace}
use Rattle.flow_streams.specs.declared.select.SelectPlace.TheVariants.{Waiting, Keyed, Unkeyed, Passing}

-- Whether its second output is connected, and where it stands.
pub record SelectState : Type 0 where
  pub rejects : Bool
  pub place : SelectPlace

-- The inputs: keys, and the packets that are selected.
abbrev pub key_port : Port
key_port = record { 0 = 0 }

-- The input of the packets.
abbrev pub in_port : Port
in_port = record { 0 = 1 }

-- The outputs: accepted packets, and rejected ones.
abbrev pub accepted_port : Port
accepted_port = record { 0 = 0 }

-- The output of those that were rejected.
abbrev pub rejected_port : Port
rejected_port = record { 0 = 1 }

-- The same component at another place of its rule.
abbrev pub at_place : SelectState → SelectPlace → SelectState
at_place state place = record state { place = place }

-- A packet is rejected: it is sent where the second output is connected, and dropped otherwise.
abbrev pub rejects_packet : SelectState → Held → ℕ → Outcome SelectState
rejects_packet state held id =
    if state.rejects then Wishes (at_place state Passing) held (Send rejected_port id) else Wishes (at_place state Waiting) (without_packet held id) Deactivate

-- The key packet is dropped. A packet is accepted where its text begins with the key's text.
abbrev pub selects : SelectState → Held → ℕ → ℕ → Outcome SelectState
selects state held key id =
    if starts_with nat_eq (text_at held.packets id) (text_at held.packets key) then Wishes (at_place state Passing) (without_packet held key) (Send accepted_port id)
    else rejects_packet state (without_packet held key) id

-- A Normal packet came.
abbrev pub comes : SelectState → Held → ℕ → SelectPlace → Outcome SelectState
comes state held id Waiting = Wishes (at_place state (Keyed id)) held (Receive in_port)
comes state held id (Keyed key) = selects state held key id
comes state held id Unkeyed = rejects_packet state held id
comes state held id Passing = Wishes state held Deactivate

-- The input from which it receives.
abbrev pub port_of : SelectPlace → Port
port_of Waiting = key_port
port_of (Keyed key) = in_port
port_of Unkeyed = in_port
port_of Passing = in_port

-- A bracket comes neither as a key nor to be selected.
abbrev pub comes_as : SelectState → Held → ℕ → Kind → Outcome SelectState
comes_as state held id Normal = comes state held id state.place
comes_as state held id Open = Fails state held (BracketIn (port_of state.place))
comes_as state held id Close = Fails state held (BracketIn (port_of state.place))

-- Nothing will come: as a key, then all is rejected; or to be selected, then it is over, and a key is dropped.
abbrev pub hears_end : SelectState → Held → SelectPlace → Outcome SelectState
hears_end state held Waiting = Wishes (at_place state Unkeyed) held (Receive in_port)
hears_end state held (Keyed key) = Wishes (at_place state Waiting) (without_packet held key) Deactivate
hears_end state held Unkeyed = Wishes (at_place state Waiting) held Deactivate
hears_end state held Passing = Wishes state held Deactivate

-- The rule, by what it is told.
abbrev pub select_next : SelectState → Held → Answer → Outcome SelectState
select_next state held answers.Start = Wishes state held (Receive key_port)
select_next state held (answers.Got id) = comes_as state held id (kind_at held.packets id)
select_next state held answers.End = hears_end state held state.place
select_next state held answers.Sent = Wishes (at_place state Waiting) held Deactivate
select_next state held (answers.Level level) = Wishes state held Deactivate

-- It comes to this alone.
abbrev pub SelectNext : SelectState → Held → Answer → Outcome SelectState → Type 0
SelectNext state held answer outcome = outcome ≡ select_next state held answer

-- Two inputs and two outputs.
abbrev pub select_shape : Shape
select_shape = record { inputs = 2; outputs = 2 }

-- The first output is used always, the second where it is connected.
abbrev pub select_uses : SelectState → ℕ → Bool
select_uses state port = if port == 1 then state.rejects else port == 0

-- What is in the hands between two wishes: the key, if it has one.
abbrev pub IsBetween : Held → SelectPlace → Type 0
IsBetween held Waiting = held.packets ≡ []
IsBetween held (Keyed key) = HoldsOnly held key
IsBetween held Unkeyed = held.packets ≡ []
IsBetween held Passing = ⊥

-- A packet came behind the key, if it has one.
abbrev pub HasCome : Held → ℕ → SelectPlace → Type 0
HasCome held id Waiting = HoldsOnly held id
HasCome held id (Keyed key) = HoldsTwo held key id
HasCome held id Unkeyed = HoldsOnly held id
HasCome held id Passing = ⊥

-- What it can be told.
abbrev pub SelectReady : SelectState → Held → Answer → Type 0
SelectReady state held answers.Start = (state.place ≡ Waiting) × (held.packets ≡ [])
SelectReady state held (answers.Got id) = HasCome held id state.place
SelectReady state held answers.End = IsBetween held state.place
SelectReady state held answers.Sent = (state.place ≡ Passing) × (held.packets ≡ [])
SelectReady state held (answers.Level level) = ⊥

-- All that a network knows of it.
abbrev pub select_rules : Rules SelectState
select_rules = record { shape = λ _. select_shape; uses = select_uses; ready = SelectReady; next = SelectNext }
