-- Components that map: in the place of a Normal packet go the packets that are made of its text, one after another; or it is passed on itself. Brackets are passed on.
-- What is made of a text is each kind's own.
use Rattle.flow_limits.specs.declared.TheConstants.{TEXT_LIMIT}
use Rattle.std.specs.Prelude.{◌≡◌, ℕ, ◌≤◌, ◌==◌, Bool, true, false, List, [], Option, Some, None, length, nat_lt, if◌then◌else◌}
use Rattle.flow_packet.specs.declared.packet.Kind.{Kind}
use Rattle.flow_packet.specs.declared.packet.Kind.TheVariants.{Normal, Open, Close}
use Rattle.flow_packet.specs.Hands.{kind_at, text_at}
use Rattle.flow_packet.specs.Held.{Held, next_id, with_made, without_packet}
use Rattle.flow_component.specs.declared.Answer.{Answer}
use Rattle.flow_component.specs.declared.Answer.TheVariants as answers
use Rattle.flow_component.specs.declared.Fail.TheVariants.{TextLimit}
use Rattle.flow_component.specs.declared.Port.{Port}
use Rattle.flow_component.specs.declared.Shape.{Shape}
use Rattle.flow_component.specs.declared.Wish.TheVariants.{Send, Deactivate}
use Rattle.flow_component.specs.Laws.{Rules, Outcome, Wishes, Fails}
use Rattle.flow_component.specs.Ports.{first_port, receive_first, send_first}
use Rattle.flow_component.specs.Alone.{HoldsOnly}
use Rattle.flow_map.specs.declared.mapper.MapperPlace.{MapperPlace}
use Rattle.flow_map.specs.declared.mapper.MapperPlace.TheVariants.{Waiting, Making}

-- A packet that is made of a text: its kind, and its own text.
pub record Product : Type 0 where
  pub kind : Kind
  pub text : List ℕ

-- What comes next of the packet with a text: nothing any more; itself, as the last; a packet that is made, as the last; or a packet that is made, and then what comes from this place of the text on.
pub data Next : Type 0 where
  Over : Next
  Itself : Next
  Last : (product : Product) → Next
  More : (product : Product) → (place : ℕ) → Next

-- How a component maps.
pub record Mapping (K : Type 0) : Type 0 where
  -- Whether its second output is connected, where it has one.
  pub second : K → Option Bool
  -- The last place of a text. (The first one is 0.)
  pub last_place : K → List ℕ → ℕ
  -- What comes next of a packet with this text, from this place of the text on.
  pub next : K → List ℕ → ℕ → Next
  -- What it has become behind a packet of this kind with this text.
  pub after : K → Kind → List ℕ → K

-- Its state: what its kind keeps, and whether it waits for a packet or has begun with one.
pub record Mapped (K : Type 0) : Type 0 where
  pub own : K
  pub place : MapperPlace

-- It waits for a packet.
abbrev pub waiting : {K : Type 0} → K → Mapped K
waiting own = record { own = own; place = Waiting }

-- The second output.
abbrev pub second_port : Port
second_port = record { 0 = 1 }

-- A packet that is passed on itself goes to the second output, where there is one that is connected, and else to the first.
abbrev pub itself_port : Option Bool → Port
itself_port None = first_port
itself_port (Some false) = first_port
itself_port (Some true) = second_port

-- It has made a packet, which goes to the first output. A text beyond the limit is a failure instead, and nothing is made.
abbrev pub makes : {K : Type 0} → Mapped K → Held → Product → Mapped K → Held → Outcome (Mapped K)
makes component held product component' held' =
    if nat_lt TEXT_LIMIT (length product.text) then Fails component held (TextLimit (length product.text)) else Wishes component' held' (send_first (next_id held))

-- What it does with the packet with this text, by what comes next of it. Once it is done with the packet, that is dropped, or passed on.
abbrev pub gives : {K : Type 0} → Mapping K → Mapped K → Held → ℕ → List ℕ → Next → Outcome (Mapped K)
gives mapping component held id text Over = Wishes (waiting (mapping.after component.own Normal text)) (without_packet held id) receive_first
gives mapping component held id text Itself = Wishes (waiting (mapping.after component.own Normal text)) held (Send (itself_port (mapping.second component.own)) id)
gives mapping component held id text (Last product) = makes component held product (waiting (mapping.after component.own Normal text)) (without_packet (with_made held product.kind product.text) id)
gives mapping component held id text (More product place) = makes component held product (record component { place = Making id place }) (with_made held product.kind product.text)

-- It goes on with the packet from this place of its text on.
abbrev pub gives_from : {K : Type 0} → Mapping K → Mapped K → Held → ℕ → List ℕ → ℕ → Outcome (Mapped K)
gives_from mapping component held id text place = gives mapping component held id text (mapping.next component.own text place)

-- A bracket is passed on to the first output.
abbrev pub passes : {K : Type 0} → Mapping K → Mapped K → Held → ℕ → Kind → List ℕ → Outcome (Mapped K)
passes mapping component held id kind text = Wishes (waiting (mapping.after component.own kind text)) held (send_first id)

-- A packet of this kind with this text comes.
abbrev pub meets : {K : Type 0} → Mapping K → Mapped K → Held → ℕ → Kind → List ℕ → Outcome (Mapped K)
meets mapping component held id Normal text = gives_from mapping component held id text 0
meets mapping component held id Open text = passes mapping component held id Open text
meets mapping component held id Close text = passes mapping component held id Close text

-- What comes after a packet was sent.
abbrev pub goes_on : {K : Type 0} → Mapping K → Mapped K → Held → MapperPlace → Outcome (Mapped K)
goes_on mapping component held Waiting = Wishes component held receive_first
goes_on mapping component held (Making id place) = gives_from mapping component held id (text_at held.packets id) place

-- The rule, by what it is told.
abbrev pub mapper_next : {K : Type 0} → Mapping K → Mapped K → Held → Answer → Outcome (Mapped K)
mapper_next mapping component held answers.Start = Wishes component held receive_first
mapper_next mapping component held (answers.Got id) = meets mapping component held id (kind_at held.packets id) (text_at held.packets id)
mapper_next mapping component held answers.End = Wishes component held Deactivate
mapper_next mapping component held answers.Sent = goes_on mapping component held component.place
mapper_next mapping component held (answers.Level n) = Wishes component held Deactivate

-- There is a second output, and it is connected.
abbrev pub is_connected : Option Bool → Bool
is_connected None = false
is_connected (Some connected) = connected

-- How many outputs there are.
abbrev pub output_count : Option Bool → ℕ
output_count None = 1
output_count (Some connected) = 2

-- One input, and one output or two.
abbrev pub mapper_shape : Option Bool → Shape
mapper_shape second = record { inputs = 1; outputs = output_count second }

-- The first output is used always, the second where it is connected.
abbrev pub mapper_uses : Option Bool → ℕ → Bool
mapper_uses second port = if port == 1 then is_connected second else port == 0

-- It has begun with no packet.
abbrev pub IsWaiting : MapperPlace → Type 0
IsWaiting Waiting = Unit {0}
IsWaiting (Making id place) = ⊥

-- Between packets its hands are empty. A packet that it has begun with is alone in them, and the place is one of its text.
abbrev pub IsReadyOn : {K : Type 0} → Mapping K → K → Held → MapperPlace → Type 0
IsReadyOn mapping own held Waiting = held.packets ≡ []
IsReadyOn mapping own held (Making id place) = HoldsOnly held id × (place ≤ mapping.last_place own (text_at held.packets id))

-- What it can be told.
abbrev pub MapperReady : {K : Type 0} → Mapping K → Mapped K → Held → Answer → Type 0
MapperReady mapping component held answers.Start = IsWaiting component.place × (held.packets ≡ [])
MapperReady mapping component held (answers.Got id) = IsWaiting component.place × HoldsOnly held id
MapperReady mapping component held answers.End = IsWaiting component.place × (held.packets ≡ [])
MapperReady mapping component held answers.Sent = IsReadyOn mapping component.own held component.place
MapperReady mapping component held (answers.Level n) = ⊥

-- All that a network knows of it.
abbrev pub mapper_rules : {K : Type 0} → Mapping K → Rules (Mapped K)
mapper_rules mapping = record {
  shape = λ component. mapper_shape (mapping.second component.own);
  uses = λ component. mapper_uses (mapping.second component.own);
  ready = MapperReady mapping;
  next = λ component held answer outcome. outcome ≡ mapper_next mapping component held answer;
}

-- The place from which it goes on is no later than this one.
abbrev pub IsWithin : ℕ → Next → Type 0
IsWithin last Over = Unit {0}
IsWithin last Itself = Unit {0}
IsWithin last (Last product) = Unit {0}
IsWithin last (More product place) = place ≤ last

-- What is asked of a mapping.
pub record IsMapping {K : Type 0} (mapping : Mapping K) : Type 0 where
  -- No packet changes whether the second output is connected.
  pub stays : (own : K) (kind : Kind) (text : List ℕ) → mapping.second (mapping.after own kind text) ≡ mapping.second own
  -- From a place of a text it goes on to another.
  pub within : (own : K) (text : List ℕ) (place : ℕ) → place ≤ mapping.last_place own text → IsWithin (mapping.last_place own text) (mapping.next own text place)
