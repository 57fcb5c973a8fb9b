-- The component that collates its inputs.
use Rattle.flow_limits.specs.declared.TheConstants.{ELEMENT_LIMIT}
use Rattle.std.specs.Prelude.{◌≡◌, ℕ, ◌+◌, ◌-◌, ◌<◌, ◌≤◌, ◌==◌, true, false, List, [], ◌∷◌, ◌++◌, length, take, slice_index, remove, nat_lt, if◌then◌else◌, Option, Some, None}
use Rattle.flow_packet.specs.declared.packet.Kind.{Kind}
use Rattle.flow_packet.specs.declared.packet.Kind.TheVariants.{Normal, Open, Close}
use Rattle.flow_packet.specs.Tree.{Tree, id_of, text_of}
use Rattle.flow_packet.specs.Hands.{IsAtRoot, kind_at}
use Rattle.flow_packet.specs.Held.{Held, next_id, with_made}
use Rattle.flow_component.specs.declared.Answer.{Answer}
use Rattle.flow_component.specs.declared.Answer.TheVariants as answers
use Rattle.flow_component.specs.declared.Wish.{Wish}
use Rattle.flow_component.specs.declared.Wish.TheVariants.{Receive, Deactivate}
use Rattle.flow_component.specs.declared.Fail.TheVariants.{BracketIn}
use Rattle.flow_component.specs.declared.Shape.{Shape}
use Rattle.flow_component.specs.Laws.{Rules, Outcome, Wishes, Fails}
use Rattle.flow_component.specs.Ports.{uses_first, send_first}
use Rattle.flow_streams.specs.declared.collate.CollatePlace.{CollatePlace}
use Rattle.flow_streams.specs.declared.collate.CollatePlace.TheVariants.{Filling, Refilling, Turning, Leaving}
use Rattle.flow_streams.specs.CollateState.{CollateState}
use Rattle.flow_streams.specs.Collation.{width, key, packet_there, first_of, levels_that_differ}

-- The wish to receive from an element.
abbrev pub receive_from : ℕ → Wish
receive_from element = Receive (record { 0 = element })

-- The input from which it receives.
abbrev pub element_of : CollatePlace → ℕ
element_of (Filling e) = e
element_of (Refilling e) = e
element_of (Turning closes opens place) = 0
element_of (Leaving closes) = 0

-- How many bytes the key of all fields has.
abbrev pub whole : CollateState → ℕ
whole state = width state.fields (length state.fields)

-- A bracket is made and sent.
abbrev pub sends_bracket : CollateState → Held → CollatePlace → Kind → List ℕ → Outcome CollateState
sends_bracket state held place kind text = Wishes (record state { place = place }) (with_made held kind text) (send_first (next_id held))

-- The packet at the place is sent. The next packet is received from the same element.
abbrev pub sends_packet : CollateState → Held → ℕ → Outcome CollateState
sends_packet state held place =
    Wishes (record state { owners = remove state.owners place; place = Refilling (slice_index state.owners place) }) held (send_first (id_of (packet_there held.packets place)))

-- First the Close packets that are due are sent, then the Open packets, up to the last level, each with its level's key of the packet, and then the packet.
abbrev pub turns : CollateState → Held → ℕ → ℕ → ℕ → Outcome CollateState
turns state held closes opens place =
    if closes == 0 then (if opens == 0 then sends_packet state held place
    else sends_bracket state held (Turning 0 (opens - 1) place) Open (take (width state.fields (length state.fields - (opens - 1))) state.last))
    else sends_bracket state held (Turning (closes - 1) opens place) Close []

-- Before the first packet each level is opened, and before a later one those from the lowest level on at which its key differs from that of the packet sent before.
abbrev pub opening : CollateState → Tree → ℕ
opening state packet = if state.opened then levels_that_differ state.fields state.last (text_of packet) else length state.fields

-- As many levels are closed before they are opened anew.
abbrev pub closing : CollateState → ℕ → ℕ
closing state opens = if state.opened then opens else 0

-- The packet at the place comes next, and so many levels are opened for it.
abbrev pub turns_to : CollateState → Held → ℕ → ℕ → Outcome CollateState
turns_to state held place opens =
    if opens == 0 then sends_packet state held place
    else turns (record state { opened = true; last = key (whole state) (packet_there held.packets place) }) held (closing state opens) opens place

-- At the end the levels are closed, and it deactivates.
abbrev pub leaves : CollateState → Held → ℕ → Outcome CollateState
leaves state held closes =
    if closes == 0 then Wishes (record state { opened = false; place = Filling 0 }) held Deactivate else sends_bracket state held (Leaving (closes - 1)) Close []

-- What it does once the least packet is found: it closes what is open, or turns to that packet.
abbrev pub chosen : CollateState → Held → Option ℕ → Outcome CollateState
chosen state held None = leaves state held (closing state (length state.fields))
chosen state held (Some place) = turns_to state held place (opening state (packet_there held.packets place))

-- The held packet with the least key comes next, the lowest element among equals.
abbrev pub chooses : CollateState → Held → Outcome CollateState
chooses state held = chosen state held (first_of (whole state) state.owners held.packets)

-- An input gave a packet or its end. Each input is asked once, in order, before the first packet is chosen.
abbrev pub goes_on : CollateState → Held → CollatePlace → Outcome CollateState
goes_on state held (Filling e) = if nat_lt (e + 1) state.elements then Wishes (record state { place = Filling (e + 1) }) held (receive_from (e + 1)) else chooses state held
goes_on state held (Refilling e) = chooses state held
goes_on state held (Turning closes opens place) = chooses state held
goes_on state held (Leaving closes) = chooses state held

-- A Normal packet is held. A bracket is a failure.
abbrev pub comes : CollateState → Held → Kind → Outcome CollateState
comes state held Normal = goes_on (record state { owners = state.owners ++ element_of state.place ∷ [] }) held state.place
comes state held Open = Fails state held (BracketIn (record { 0 = element_of state.place }))
comes state held Close = Fails state held (BracketIn (record { 0 = element_of state.place }))

-- What comes after a packet was sent.
abbrev pub sent_on : CollateState → Held → CollatePlace → Outcome CollateState
sent_on state held (Filling e) = Wishes state held (receive_from e)
sent_on state held (Refilling e) = Wishes state held (receive_from e)
sent_on state held (Turning closes opens place) = turns state held closes opens place
sent_on state held (Leaving closes) = leaves state held closes

-- The rule, by what it is told.
abbrev pub collate_next : CollateState → Held → Answer → Outcome CollateState
collate_next state held answers.Start = Wishes state held (receive_from (element_of state.place))
collate_next state held (answers.Got id) = comes state held (kind_at held.packets id)
collate_next state held answers.End = goes_on state held state.place
collate_next state held answers.Sent = sent_on state held state.place
collate_next state held (answers.Level n) = Wishes state held Deactivate

-- It comes to this alone.
abbrev pub CollateNext : CollateState → Held → Answer → Outcome CollateState → Type 0
CollateNext state held answer outcome = outcome ≡ collate_next state held answer

-- As many inputs as its state says, and one output.
abbrev pub collate_shape : CollateState → Shape
collate_shape state = record { inputs = state.elements; outputs = 1 }

-- Each number is that of one of n inputs.
abbrev pub AreInputs : ℕ → List ℕ → Type 0
AreInputs n [] = Unit {0}
AreInputs n (e ∷ es) = (e < n) × AreInputs n es

-- The next packet that is made has an id of its own; the packets that are held come from inputs.
pub record Keeps (elements : ℕ) (owners : List ℕ) (held : Held) : Type 0 where
  pub new : IsAtRoot held.packets (next_id held) → ⊥
  pub inputs : AreInputs elements owners
  pub some : 1 ≤ elements
  pub most : elements ≤ ELEMENT_LIMIT

-- It receives from an input from which it holds nothing.
abbrev pub IsReceiving : CollateState → CollatePlace → Type 0
IsReceiving state (Filling e) = (e < state.elements) × (length state.owners ≤ e)
IsReceiving state (Refilling e) = (e < state.elements) × (length state.owners < state.elements)
IsReceiving state (Turning closes opens place) = ⊥
IsReceiving state (Leaving closes) = ⊥

-- A packet was sent: a held one, a bracket before a held one, or a bracket after all of them.
abbrev pub IsReadyOn : CollateState → CollatePlace → Type 0
IsReadyOn state (Filling e) = ⊥
IsReadyOn state (Refilling e) = (e < state.elements) × (length state.owners < state.elements)
IsReadyOn state (Turning closes opens place) = (place < length state.owners) × (opens ≤ length state.fields) × (length state.owners ≤ state.elements)
IsReadyOn state (Leaving closes) = state.owners ≡ []

-- It holds nothing.
pub record IsFresh (state : CollateState) : Type 0 where
  pub place : state.place ≡ Filling 0
  pub owners : state.owners ≡ []
  pub opened : state.opened ≡ false

-- Between answers it holds a packet for each of its owners, and one more where a packet has come.
abbrev pub CollateReady : CollateState → Held → Answer → Type 0
CollateReady state held answers.Start = Keeps state.elements state.owners held × IsFresh state × (held.packets ≡ [])
CollateReady state held (answers.Got id) = Keeps state.elements state.owners held × IsReceiving state state.place × (length state.owners + 1 ≡ length held.packets) × IsAtRoot held.packets id
CollateReady state held answers.End = Keeps state.elements state.owners held × IsReceiving state state.place × (length state.owners ≡ length held.packets)
CollateReady state held answers.Sent = Keeps state.elements state.owners held × IsReadyOn state state.place × (length state.owners ≡ length held.packets)
CollateReady state held (answers.Level n) = ⊥

-- All that a network knows of it.
abbrev pub collate_rules : Rules CollateState
collate_rules = record { shape = collate_shape; uses = λ _. uses_first; ready = CollateReady; next = CollateNext }
