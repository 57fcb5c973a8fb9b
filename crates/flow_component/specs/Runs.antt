-- Runs of a component: what it was told, one answer after another, and what it came to after each. A component's stream meaning is
-- told of its runs alone. (This project's own.)
use Rattle.std.specs.Prelude.{◌≡◌, ◌⊎◌, ℕ, ◌+◌, ◌<◌, ◌==◌, ◌&&◌, not, if◌then◌else◌, Bool, true, false, List, [], ◌∷◌, ◌++◌, Some}
use Rattle.std.specs.List.{flat_map}
use Rattle.flow_packet.specs.declared.packet.Kind.TheVariants as kinds
use Rattle.flow_packet.specs.Tree.{Tree, id_of, content, packet_of}
use Rattle.flow_packet.specs.Hands.{packet_at}
use Rattle.flow_packet.specs.Held.{Held, Sound, next_id, with_packet, without_packet, with_made}
use Rattle.flow_component.specs.declared.Answer.{Answer}
use Rattle.flow_component.specs.declared.Wish.{Wish}
use Rattle.flow_component.specs.declared.Wish.TheVariants as wishes
use Rattle.flow_component.specs.Laws.{Rules, Wishes}
use Rattle.flow_component.specs.Happenings.{Happening, Started, Received, Ended, Sent, Learned, answer_of}

-- A component between two answers: its state, its hands and its wish. One that hasn't started stands as one that has deactivated.
pub record Poise (K : Type 0) : Type 0 where
  pub component : K
  pub held : Held
  pub wish : Wish

-- A component before its first start.
abbrev pub fresh : {K : Type 0} → K → ℕ → Poise K
fresh component maker = record { component = component; held = record { maker = maker; made = 0; packets = [] }; wish = wishes.Deactivate }

-- A packet that is got comes into the hands from a connection, or is made there of an initial text.
pub data Comes (old : Held) (packet : Tree) (new : Held) : Type 0 where
  from_connection : new ≡ with_packet old packet → Comes old packet new
  from_text : (text : List ℕ) → packet ≡ packet_of (next_id old) kinds.Normal text [] → new ≡ with_made old kinds.Normal text → Comes old packet new

-- This happens where the component wished so, and leaves it with these hands.
abbrev pub Grants : Held → Wish → Happening → Held → Type 0
Grants old wish Started new = (wish ≡ wishes.Deactivate) × (new ≡ old)
Grants old wish (Received port packet) new = (wish ≡ wishes.Receive (record { 0 = port })) × Comes old packet new
Grants old wish (Ended port) new = (wish ≡ wishes.Receive (record { 0 = port })) × (new ≡ old)
Grants old wish (Sent port packet) new = (wish ≡ wishes.Send (record { 0 = port }) (id_of packet)) × (packet_at old.packets (id_of packet) ≡ Some packet) × (new ≡ without_packet old (id_of packet))
Grants old wish (Learned port level) new = (wish ≡ wishes.Level (record { 0 = port })) × (new ≡ old)

-- One answer, for which the component is ready with sound hands, and the work after it up to the next wish.
pub record Steps {K : Type 0} (rules : Rules K) (p : Poise K) (happening : Happening) (q : Poise K) : Type 0 where
  pub held : Held
  pub grants : Grants p.held p.wish happening held
  pub sound : Sound held
  pub is_ready : rules.ready p.component held (answer_of happening)
  pub comes_to : rules.next p.component held (answer_of happening) (Wishes q.component q.held q.wish)

-- A run over these happenings, in order.
abbrev pub Runs : {K : Type 0} → Rules K → Poise K → List Happening → Poise K → Type 0
Runs rules p [] q = q ≡ p
Runs {K} rules p (happening ∷ happenings) q = (m : Poise K) × Steps rules p happening m × Runs rules m happenings q

-- A Normal packet with this text and no chains, as content.
abbrev pub text_packet : List ℕ → Tree
text_packet text = packet_of 0 kinds.Normal text []

-- The content of the packet that was got at this input, or sent at this output, by one happening.
abbrev pub content_got : ℕ → Happening → List Tree
content_got port Started = []
content_got port (Received input packet) = if port == input then content packet ∷ [] else []
content_got port (Ended input) = []
content_got port (Sent output packet) = []
content_got port (Learned output level) = []

-- What a happening sends on an output: the packet as a content, or nothing.
abbrev pub content_sent : ℕ → Happening → List Tree
content_sent port Started = []
content_sent port (Received input packet) = []
content_sent port (Ended input) = []
content_sent port (Sent output packet) = if port == output then content packet ∷ [] else []
content_sent port (Learned output level) = []

-- The contents of what was got at an input, and of what was sent at an output, in order.
abbrev pub got : ℕ → List Happening → List Tree
got port happenings = flat_map (content_got port) happenings

-- All that was sent on an output, in order.
abbrev pub sent : ℕ → List Happening → List Tree
sent port happenings = flat_map (content_sent port) happenings

-- After the end of this input nothing is got there any more.
abbrev pub EndIsLast : ℕ → List Happening → Type 0
EndIsLast port [] = Unit {0}
EndIsLast port (Started ∷ later) = EndIsLast port later
EndIsLast port (Received input packet ∷ later) = EndIsLast port later
EndIsLast port (Ended input ∷ later) = (input ≡ port → got port later ≡ []) × EndIsLast port later
EndIsLast port (Sent output packet ∷ later) = EndIsLast port later
EndIsLast port (Learned output level ∷ later) = EndIsLast port later

-- The end of this input isn't the first thing that is heard there.
abbrev pub BringsFirst : ℕ → List Happening → Type 0
BringsFirst port [] = Unit {0}
BringsFirst port (Started ∷ later) = BringsFirst port later
BringsFirst port (Received input packet ∷ later) = (input ≡ port) ⊎ BringsFirst port later
BringsFirst port (Ended input ∷ later) = (input ≡ port → ⊥) × BringsFirst port later
BringsFirst port (Sent output packet ∷ later) = BringsFirst port later
BringsFirst port (Learned output level ∷ later) = BringsFirst port later

-- After each start, one of these inputs brings a packet before its end.
abbrev pub StartsBring : (ℕ → Type 0) → List Happening → Type 0
StartsBring among [] = Unit {0}
StartsBring among (Started ∷ later) = ((port : ℕ) × among port × BringsFirst port later) × StartsBring among later
StartsBring among (Received input packet ∷ later) = StartsBring among later
StartsBring among (Ended input ∷ later) = StartsBring among later
StartsBring among (Sent output packet ∷ later) = StartsBring among later
StartsBring among (Learned output level ∷ later) = StartsBring among later

-- At this input each start gives this text anew: it is got once before the next start, nothing else is got there, and the end isn't heard before it. The text is
-- still to be got where it is fresh.
abbrev pub GivesText : ℕ → List ℕ → Bool → List Happening → Type 0
GivesText port text fresh [] = Unit {0}
GivesText port text fresh (Started ∷ later) = GivesText port text true later
GivesText port text fresh (Received input packet ∷ later) = (input ≡ port → (fresh ≡ true) × (content packet ≡ text_packet text)) × GivesText port text (fresh && not (input == port)) later
GivesText port text fresh (Ended input ∷ later) = (input ≡ port → fresh ≡ false) × GivesText port text fresh later
GivesText port text fresh (Sent output packet ∷ later) = GivesText port text fresh later
GivesText port text fresh (Learned output level ∷ later) = GivesText port text fresh later

-- It is the end of this input.
abbrev pub IsEnd : ℕ → Happening → Type 0
IsEnd port Started = ⊥
IsEnd port (Received input packet) = ⊥
IsEnd port (Ended input) = input ≡ port
IsEnd port (Sent output packet) = ⊥
IsEnd port (Learned output level) = ⊥

-- The end of this input was heard.
abbrev pub HeardEnd : ℕ → List Happening → Type 0
HeardEnd port [] = ⊥
HeardEnd port (happening ∷ happenings) = IsEnd port happening ⊎ HeardEnd port happenings

-- It is started.
abbrev pub IsStart : Happening → Type 0
IsStart Started = Unit {0}
IsStart (Received input packet) = ⊥
IsStart (Ended input) = ⊥
IsStart (Sent output packet) = ⊥
IsStart (Learned output level) = ⊥

-- Each start, but for one before which nothing was told, finds one of the first n inputs whose end wasn't heard yet.
abbrev pub Wakes : ℕ → List Happening → List Happening → Type 0
Wakes n before [] = Unit {0}
Wakes n before (happening ∷ later) = (IsStart happening → (before ≡ []) ⊎ ((port : ℕ) × (port < n) × (HeardEnd port before → ⊥))) × Wakes n (before ++ happening ∷ []) later

-- How often it was started.
abbrev pub starts : List Happening → ℕ
starts [] = 0
starts (Started ∷ later) = starts later + 1
starts (Received input packet ∷ later) = starts later
starts (Ended input ∷ later) = starts later
starts (Sent output packet ∷ later) = starts later
starts (Learned output level ∷ later) = starts later

-- A run from the first state of a component to a deactivation: all that a process that has ended was told.
pub record EndedRun {K : Type 0} (rules : Rules K) (component : K) (happenings : List Happening) : Type 0 where
  pub maker : ℕ
  pub last : Poise K
  pub runs : Runs rules (fresh component maker) happenings last
  pub idle : last.wish ≡ wishes.Deactivate
