-- The component that passes the last packets of each stretch on: its rule, what it is ready for, and what it makes of a stream. (The
-- command tail, told of streams with substreams; the rule is this project's own.)
use Rattle.std.specs.Prelude.{◌≡◌, ℕ, ◌+◌, ◌≤◌, ◌==◌, Bool, ◌||◌, List, [], ◌∷◌, ◌++◌, length, nat_lt, if◌then◌else◌}
use Rattle.flow_packet.specs.declared.packet.Kind.{Kind}
use Rattle.flow_packet.specs.declared.packet.Kind.TheVariants.{Normal, Open, Close}
use Rattle.flow_packet.specs.Tree.{Tree, id_of, kind_of, packet_of, before}
use Rattle.flow_packet.specs.Hands.{kind_at, height_at, chain_of_root, attached, detached, wrapped}
use Rattle.flow_packet.specs.Held.{Held, Sound, next_id, without_packet}
use Rattle.flow_component.specs.declared.Answer.{Answer}
use Rattle.flow_component.specs.declared.Answer.TheVariants as answers
use Rattle.flow_component.specs.declared.Wish.TheVariants.{Deactivate}
use Rattle.flow_component.specs.declared.Fail.TheVariants.{TreeDepth}
use Rattle.flow_component.specs.Laws.{Rules, Outcome, Wishes, Fails}
use Rattle.flow_component.specs.Ports.{receive_first, send_first}
use Rattle.flow_component.specs.Alone.{HoldsOnly}
use Rattle.flow_streams.specs.Bundle.{items}
use Rattle.flow_pick.specs.declared.tail.TailPlace.{TailPlace}
use Rattle.flow_pick.specs.declared.tail.TailPlace.TheVariants.{Waiting, Holding, Passing, Leaving}
use Rattle.flow_pick.specs.TailState.{TailState}
use Rattle.flow_pick.specs.Picking.{leaves, parting_shape, parting_uses}
use Rattle.flow_pick.specs.Places.{Place, is_bracket, stretch}

-- It stands at this place then.
abbrev pub at : TailState → TailPlace → TailState
at state place = record state { place = place }

-- The packets that the carrier holds.
abbrev pub held_by : Held → ℕ → List Tree
held_by held carrier = chain_of_root held.packets carrier items

-- The hands with the packet in a new carrier.
abbrev pub carried : Held → ℕ → Held
carried held id = record { maker = held.maker; made = held.made + 1; packets = wrapped held.packets (next_id held) items id }

-- The hands with the packet behind those of the carrier.
abbrev pub added : Held → ℕ → ℕ → Held
added held carrier id = record held { packets = attached held.packets carrier items id }

-- The hands with the first packet of the carrier taken out.
abbrev pub taken : Held → ℕ → Tree → Held
taken held carrier first = record held { packets = detached held.packets carrier items ++ first ∷ [] }

-- Where more than the last ones are held, the first of them isn't among the last.
abbrev pub trims : TailState → Held → ℕ → List Tree → Outcome TailState
trims state held carrier [] = Wishes state held receive_first
trims state held carrier (first ∷ later) =
    if nat_lt state.count (length (first ∷ later)) then leaves state.rest state (taken held carrier first) (id_of first) else Wishes state held receive_first

-- The first packet of a stretch is held by a new carrier, unless it is too high.
abbrev pub begins : TailState → Held → ℕ → Outcome TailState
begins state held id = if height_at held.packets id == 16 then Fails state held TreeDepth else Wishes (at state (Holding (next_id held))) (carried held id) receive_first

-- A later one is held behind the others, unless it is too high.
abbrev pub holds : TailState → Held → ℕ → ℕ → Outcome TailState
holds state held carrier id = if height_at held.packets id == 16 then Fails state held TreeDepth else trims state (added held carrier id) carrier (held_by (added held carrier id) carrier)

-- What is held is sent before the bracket. After the last of it the carrier is dropped, and the bracket is sent.
abbrev pub passes : TailState → Held → ℕ → ℕ → List Tree → Outcome TailState
passes state held carrier bracket [] = Wishes (at state Waiting) (without_packet held carrier) (send_first bracket)
passes state held carrier bracket (first ∷ later) = Wishes (at state (Passing carrier bracket)) (taken held carrier first) (send_first (id_of first))

-- What is held is sent before the end. After the last of it the carrier is dropped.
abbrev pub ends : TailState → Held → ℕ → List Tree → Outcome TailState
ends state held carrier [] = Wishes (at state Waiting) (without_packet held carrier) Deactivate
ends state held carrier (first ∷ later) = Wishes (at state (Leaving carrier)) (taken held carrier first) (send_first (id_of first))

-- A Normal packet comes.
abbrev pub takes : TailState → Held → ℕ → TailPlace → Outcome TailState
takes state held id Waiting = if state.count == 0 then leaves state.rest state held id else begins state held id
takes state held id (Holding carrier) = holds state held carrier id
takes state held id (Passing carrier bracket) = Wishes state held receive_first
takes state held id (Leaving carrier) = Wishes state held receive_first

-- A bracket comes.
abbrev pub brackets : TailState → Held → ℕ → TailPlace → Outcome TailState
brackets state held id Waiting = Wishes state held (send_first id)
brackets state held id (Holding carrier) = passes state held carrier id (held_by held carrier)
brackets state held id (Passing carrier bracket) = Wishes state held receive_first
brackets state held id (Leaving carrier) = Wishes state held receive_first

-- A packet comes.
abbrev pub comes : TailState → Held → ℕ → Kind → Outcome TailState
comes state held id Normal = takes state held id state.place
comes state held id Open = brackets state held id state.place
comes state held id Close = brackets state held id state.place

-- The end comes.
abbrev pub end_comes : TailState → Held → TailPlace → Outcome TailState
end_comes state held Waiting = Wishes state held Deactivate
end_comes state held (Holding carrier) = ends state held carrier (held_by held carrier)
end_comes state held (Passing carrier bracket) = Wishes state held receive_first
end_comes state held (Leaving carrier) = Wishes state held receive_first

-- What comes after a packet was sent.
abbrev pub goes_on : TailState → Held → TailPlace → Outcome TailState
goes_on state held Waiting = Wishes state held receive_first
goes_on state held (Holding carrier) = Wishes state held receive_first
goes_on state held (Passing carrier bracket) = passes state held carrier bracket (held_by held carrier)
goes_on state held (Leaving carrier) = ends state held carrier (held_by held carrier)

-- The rule, by what it is told.
abbrev pub tail_next : TailState → Held → Answer → Outcome TailState
tail_next state held answers.Start = Wishes state held receive_first
tail_next state held (answers.Got id) = comes state held id (kind_at held.packets id)
tail_next state held answers.End = end_comes state held state.place
tail_next state held answers.Sent = goes_on state held state.place
tail_next state held (answers.Level n) = Wishes state held receive_first

-- It comes to this alone.
abbrev pub TailNext : TailState → Held → Answer → Outcome TailState → Type 0
TailNext state held answer outcome = outcome ≡ tail_next state held answer

-- The carrier with these packets.
abbrev pub carrier_of : ℕ → List Tree → Tree
carrier_of id packets = packet_of id Normal [] (before (items, packets) [])

-- They are Normal.
abbrev pub AreNormal : List Tree → Type 0
AreNormal [] = Unit {0}
AreNormal (packet ∷ packets) = (kind_of packet ≡ Normal) × AreNormal packets

-- The hands hold a carrier with at most so many Normal packets, and these others behind it.
pub record Carries (held : Held) (carrier count : ℕ) (others : List Tree) : Type 0 where
  pub packets : List Tree
  pub holds : held.packets ≡ carrier_of carrier packets ∷ others
  pub few : length packets ≤ count
  pub normal : AreNormal packets
  pub sound : Sound held

-- The hands hold the carrier, and the packet that came behind it.
pub record CarriesOne (held : Held) (carrier count id : ℕ) : Type 0 where
  pub other : Tree
  pub named : id_of other ≡ id
  pub carries : Carries held carrier count (other ∷ [])

-- Between packets it holds the carrier, if one is there.
abbrev pub IsBetween : TailState → Held → TailPlace → Type 0
IsBetween state held Waiting = held.packets ≡ []
IsBetween state held (Holding carrier) = Carries held carrier state.count []
IsBetween state held (Passing carrier bracket) = ⊥
IsBetween state held (Leaving carrier) = ⊥

-- It holds the packet that came, and the carrier if one is there.
abbrev pub HasCome : TailState → Held → ℕ → TailPlace → Type 0
HasCome state held id Waiting = HoldsOnly held id
HasCome state held id (Holding carrier) = CarriesOne held carrier state.count id
HasCome state held id (Passing carrier bracket) = ⊥
HasCome state held id (Leaving carrier) = ⊥

-- Once a packet was sent it holds what is still to be sent.
abbrev pub HasSent : TailState → Held → TailPlace → Type 0
HasSent state held Waiting = held.packets ≡ []
HasSent state held (Holding carrier) = Carries held carrier state.count []
HasSent state held (Passing carrier bracket) = CarriesOne held carrier state.count bracket
HasSent state held (Leaving carrier) = Carries held carrier state.count []

-- What it can be told.
abbrev pub TailReady : TailState → Held → Answer → Type 0
TailReady state held answers.Start = IsBetween state held state.place
TailReady state held (answers.Got id) = HasCome state held id state.place
TailReady state held answers.End = IsBetween state held state.place
TailReady state held answers.Sent = HasSent state held state.place
TailReady state held (answers.Level n) = ⊥

-- All that a network knows of it.
abbrev pub tail_rules : Rules TailState
tail_rules = record { shape = λ _. parting_shape; uses = λ state. parting_uses state.rest; ready = TailReady; next = TailNext }

-- A bracket, or a Normal packet behind which fewer than so many stand in its stretch.
abbrev pub is_among_last : ℕ → Place → Bool
is_among_last count place = is_bracket (kind_of place.packet) || nat_lt (stretch place.later) count

-- A Tail at its start.
abbrev pub fresh_tail : ℕ → Bool → TailState
fresh_tail count rest = record { count = count; rest = rest; place = Waiting }
