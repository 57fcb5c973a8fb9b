-- The component that sorts the stretches of its stream.
use Rattle.std.specs.Prelude.{◌≡◌, ℕ, ◌+◌, ◌==◌, List, [], ◌∷◌, ◌++◌, if◌then◌else◌, Option, Some, None}
use Rattle.flow_packet.specs.declared.packet.Kind.{Kind}
use Rattle.flow_packet.specs.declared.packet.Kind.TheVariants.{Normal, Open, Close}
use Rattle.flow_packet.specs.Tree.{Tree, id_of}
use Rattle.flow_packet.specs.Hands.{kind_at, height_at, chain_of_root, attached, detached, reordered, wrapped}
use Rattle.flow_packet.specs.Held.{Held, Sound, next_id, without_packet}
use Rattle.flow_component.specs.declared.Answer.{Answer}
use Rattle.flow_component.specs.declared.Answer.TheVariants as answers
use Rattle.flow_component.specs.declared.Wish.TheVariants.{Deactivate}
use Rattle.flow_component.specs.declared.Fail.TheVariants.{TreeDepth}
use Rattle.flow_component.specs.Laws.{Rules, Outcome, Wishes, Fails}
use Rattle.flow_component.specs.Ports.{one_to_one, uses_first, receive_first, send_first}
use Rattle.flow_component.specs.Alone.{HoldsOnly}
use Rattle.flow_streams.specs.Bundle.{items, HoldsTwo}
use Rattle.flow_sort.specs.declared.sort.SortPlace.{SortPlace}
use Rattle.flow_sort.specs.declared.sort.SortPlace.TheVariants.{Idle, Gathering, Emptying}
use Rattle.flow_sort.specs.Sorted.{stable_sort}

-- How many bytes its keys have, or none where the whole texts are the keys; and where it stands.
pub record SortState : Type 0 where
  pub bytes : Option ℕ
  pub place : SortPlace

-- The first packet of a stretch goes into the chain of a new packet, the carrier, unless it is too high.
abbrev pub begins : SortState → Held → ℕ → Outcome SortState
begins state held id =
    if height_at held.packets id == 16 then Fails state held TreeDepth
    else Wishes (record state { place = Gathering (next_id held) }) (record held { made = held.made + 1; packets = wrapped held.packets (next_id held) items id }) receive_first

-- A later one goes to the end of the carrier's chain, unless it is too high.
abbrev pub gathers : SortState → Held → ℕ → ℕ → Outcome SortState
gathers state held carrier id =
    if height_at held.packets id == 16 then Fails state held TreeDepth else Wishes state (record held { packets = attached held.packets carrier items id }) receive_first

-- What comes after the last packet of a stretch: the bracket that ended it is sent, or it deactivates.
abbrev pub passes : SortState → Held → Option ℕ → Outcome SortState
passes state held None = Wishes (record state { place = Idle }) held Deactivate
passes state held (Some bracket) = Wishes (record state { place = Idle }) held (send_first bracket)

-- The next packet of the carrier's chain is sent. After the last one the carrier is dropped.
abbrev pub empties : SortState → Held → ℕ → Option ℕ → List Tree → Outcome SortState
empties state held carrier bracket [] = passes state (without_packet held carrier) bracket
empties state held carrier bracket (child ∷ children) =
    Wishes (record state { place = Emptying carrier bracket }) (record held { packets = detached held.packets carrier items ++ child ∷ [] }) (send_first (id_of child))

-- The carrier is emptied.
abbrev pub unloads : SortState → Held → ℕ → Option ℕ → Outcome SortState
unloads state held carrier bracket = empties state held carrier bracket (chain_of_root held.packets carrier items)

-- The hands with the carrier's chain sorted.
abbrev pub sorts : Option ℕ → Held → ℕ → Held
sorts bytes held carrier = record held { packets = reordered held.packets carrier items (stable_sort bytes (chain_of_root held.packets carrier items)) }

-- A stretch ends, by a bracket or at the end of the stream: it is sorted, and then sent.
abbrev pub ends_stretch : SortState → Held → ℕ → Option ℕ → Outcome SortState
ends_stretch state held carrier bracket = unloads state (sorts state.bytes held carrier) carrier bracket

-- A packet came.
abbrev pub comes : SortState → Held → ℕ → SortPlace → Kind → Outcome SortState
comes state held id Idle Normal = begins state held id
comes state held id Idle Open = Wishes state held (send_first id)
comes state held id Idle Close = Wishes state held (send_first id)
comes state held id (Gathering carrier) Normal = gathers state held carrier id
comes state held id (Gathering carrier) Open = ends_stretch state held carrier (Some id)
comes state held id (Gathering carrier) Close = ends_stretch state held carrier (Some id)
comes state held id (Emptying carrier bracket) kind = Wishes state held Deactivate

-- The stream has ended.
abbrev pub ends : SortState → Held → SortPlace → Outcome SortState
ends state held Idle = Wishes state held Deactivate
ends state held (Gathering carrier) = ends_stretch state held carrier None
ends state held (Emptying carrier bracket) = Wishes state held Deactivate

-- A packet was sent.
abbrev pub goes_on : SortState → Held → SortPlace → Outcome SortState
goes_on state held Idle = Wishes state held receive_first
goes_on state held (Gathering carrier) = Wishes state held Deactivate
goes_on state held (Emptying carrier bracket) = unloads state held carrier bracket

-- The rule, by what it is told.
abbrev pub sort_next : SortState → Held → Answer → Outcome SortState
sort_next state held answers.Start = Wishes state held receive_first
sort_next state held (answers.Got id) = comes state held id state.place (kind_at held.packets id)
sort_next state held answers.End = ends state held state.place
sort_next state held answers.Sent = goes_on state held state.place
sort_next state held (answers.Level n) = Wishes state held Deactivate

-- It comes to this alone.
abbrev pub SortNext : SortState → Held → Answer → Outcome SortState → Type 0
SortNext state held answer outcome = outcome ≡ sort_next state held answer

-- The packets behind the carrier: the bracket, if there is one.
abbrev pub IsBehind : Option ℕ → List Tree → Type 0
IsBehind None behind = behind ≡ []
IsBehind (Some bracket) behind = (t : Tree) × (behind ≡ t ∷ []) × (id_of t ≡ bracket)

-- The hands are sound, and hold the carrier and behind it the bracket, if there is one.
pub record Carries (held : Held) (carrier : ℕ) (bracket : Option ℕ) : Type 0 where
  pub packet : Tree
  pub behind : List Tree
  pub holds : held.packets ≡ packet ∷ behind
  pub named : id_of packet ≡ carrier
  pub rest : IsBehind bracket behind
  pub sound : Sound held

-- The packet that came stands alone, or behind the carrier.
abbrev pub HasCome : Held → ℕ → SortPlace → Type 0
HasCome held id Idle = HoldsOnly held id
HasCome held id (Gathering carrier) = HoldsTwo held carrier id × Sound held
HasCome held id (Emptying carrier bracket) = ⊥

-- Between packets the carrier is held alone, once a stretch has begun.
abbrev pub IsBetween : Held → SortPlace → Type 0
IsBetween held Idle = held.packets ≡ []
IsBetween held (Gathering carrier) = HoldsOnly held carrier × Sound held
IsBetween held (Emptying carrier bracket) = ⊥

-- After a packet was sent the hands are empty, or more is to be sent.
abbrev pub HasSent : Held → SortPlace → Type 0
HasSent held Idle = held.packets ≡ []
HasSent held (Gathering carrier) = ⊥
HasSent held (Emptying carrier bracket) = Carries held carrier bracket

-- It stands between two stretches.
abbrev pub IsIdle : SortPlace → Type 0
IsIdle Idle = Unit {0}
IsIdle (Gathering carrier) = ⊥
IsIdle (Emptying carrier bracket) = ⊥

-- What it can be told.
abbrev pub SortReady : SortState → Held → Answer → Type 0
SortReady state held answers.Start = IsIdle state.place × (held.packets ≡ [])
SortReady state held (answers.Got id) = HasCome held id state.place
SortReady state held answers.End = IsBetween held state.place
SortReady state held answers.Sent = HasSent held state.place
SortReady state held (answers.Level n) = ⊥

-- All that a network knows of it.
abbrev pub sort_rules : Rules SortState
sort_rules = record { shape = λ _. one_to_one; uses = λ _. uses_first; ready = SortReady; next = SortNext }
