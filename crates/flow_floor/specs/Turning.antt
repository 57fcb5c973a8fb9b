-- What a turn does to the net, and to the ends at which its seat is; and which turn is the machine's.
use Rattle.std.specs.Prelude.{◌≡◌, ℕ, ◌+◌, ◌<◌, ◌≤◌, List, ◌∷◌, drop, length, Option, Some, None, slice_get, [], ◌++◌, slice_set}
use Rattle.std.specs.Option.{option_map}
use Rattle.flow_packet.specs.Tree.{Tree}
use Rattle.flow_component.specs.Laws.{Rules}
use Rattle.flow_model.specs.Events.{Event, event_from, seen_by, Sends, Sleeps, Closes}
use Rattle.flow_model.specs.Turns.{Change, Taken, Added, Closed, ChangeAt, change_of, process_after}
use Rattle.flow_model.specs.Stands.{ChannelShown, dropped_after, all_shown_after}
use Rattle.flow_model.specs.States.{Outlet}
use Rattle.flow_machine.specs.Values.{BodyValue, NetValue}
use Rattle.flow_machine.specs.Nets.{looks_of, levels_told}
use Rattle.flow_machine.specs.Logs.{Logged, turns_made}
use Rattle.flow_machine.specs.Solo.{GoesBy, reached}
use Rattle.flow_floor.specs.declared.board.Sending.{Sending}
use Rattle.flow_floor.specs.declared.board.Receiving.{Receiving}
use Rattle.flow_floor.specs.declared.board.Look.{Look}
use Rattle.flow_floor.specs.Ends.{IsLearnt, IsDrawn}
use Rattle.flow_floor.specs.Law.{AllSeen}
use Rattle.flow_floor.specs.Made.{turns_by}

-- A body after a turn with this stamp.
abbrev pub turned_body : {K : Type 0} → Event → ℕ → BodyValue K → BodyValue K
turned_body e stamp b = record b { process = process_after b.process e; dropped = dropped_after e b.dropped; leaving = None; stamps = b.stamps ++ stamp ∷ []; levels = b.levels ++ levels_told e stamp }

-- A net with another body at one place.
abbrev pub with_body : {K : Type 0} → NetValue K → ℕ → BodyValue K → NetValue K
with_body now p b = record now { bodies = slice_set now.bodies p b }

-- The net after a turn of process p, which was b, with this stamp.
abbrev pub turned_net : {K : Type 0} → NetValue K → ℕ → BodyValue K → Event → ℕ → NetValue K
turned_net now p b e stamp = record now { bodies = slice_set now.bodies p (turned_body e stamp b); channels = all_shown_after e now.channels }

-- What the log keeps of a turn.
abbrev pub logged : ℕ → Event → Logged
logged p e = record { process = p; seen = seen_by e }

-- The machine's turn of this stamp: when so many turns had been made, the net to which the opened one, `start`, had gone on had this body for
-- process p, whose turn was this event. Each turn that led there is that of some seat, and those of the seat that makes this one are the turns `made`.
pub record MachineTurn {K : Type 0} (rules : Rules K) (start : NetValue K) (made : List (ℕ × ℕ)) (stamp p : ℕ) (b : BodyValue K) (e : Event) : Type 0 where
  pub now : NetValue K
  pub log : List Logged
  pub by : List ℕ
  pub seat : ℕ
  pub goes : GoesBy rules (reached rules) start (turns_made start) log now
  pub total : turns_made now ≡ turns_made start + length log
  pub clock : turns_made now ≡ stamp
  pub seats : length by ≡ length log
  pub own : made ≡ turns_by seat (turns_made start) by log
  pub there : slice_get now.bodies p ≡ Some b
  pub level : ℕ
  pub happens : event_from (looks_of now.channels) b.process level ≡ Some e

-- The turn of a send of this packet.
abbrev pub sent_event : ℕ → ℕ → Option Tree → Event
sent_event port c (Some packet) = Sends port c packet
sent_event port c None = Sleeps

-- The turn that closes this output.
abbrev pub closed_event : Option Outlet → Event
closed_event (Some outlet) = Closes outlet.output outlet.connection
closed_event None = Sleeps

-- The sending end after a change of its connection: the oldest placed packet is the machine's now, and a put that isn't published, and a level that was
-- learnt before may be too low; or a close is one that isn't subtracted.
abbrev pub sent_by : Change → Sending → Sending
sent_by (Added packet) sending = record sending { placed = drop 1 sending.placed; unpublished = sending.unpublished + 1; learnt = None }
sent_by (Closed output) sending = record sending { unsubtracted = sending.unsubtracted + 1 }
sent_by Taken sending = sending

-- The receiving end: the oldest drawn packet is a take that isn't withdrawn.
abbrev pub received_by : Change → Receiving → Receiving
received_by Taken receiving = record receiving { drawn = drop 1 receiving.drawn; unwithdrawn = receiving.unwithdrawn + 1 }
received_by (Added packet) receiving = receiving
received_by (Closed output) receiving = receiving

-- The ends after a turn.
abbrev pub sent_after : Option ChangeAt → Sending → Sending
sent_after (Some at) sending = sent_by at.change sending
sent_after None sending = sending

abbrev pub sending_after : Event → Option Sending → Option Sending
sending_after e sending = option_map (sent_after (change_of e)) sending

abbrev pub received_after : Option ChangeAt → Receiving → Receiving
received_after (Some at) receiving = received_by at.change receiving
received_after None receiving = receiving

abbrev pub receiving_after : Event → Option Receiving → Option Receiving
receiving_after e receiving = option_map (received_after (change_of e)) receiving

-- The seat is at the end of connection c that this change is at, and has come so far: the packet that is taken is drawn; the one that is added is the
-- oldest placed one; and a sender closes where all that was put is published.
abbrev pub HasComeFor : ℕ → Change → Option Sending → Option Receiving → Type 0
HasComeFor c Taken sending receiving = (y : Receiving) × (receiving ≡ Some y) × (y.connection ≡ c) × (0 < length y.drawn) × (y.out ≡ None)
HasComeFor c (Added packet) sending receiving = (x : Sending) × (sending ≡ Some x) × (x.connection ≡ c) × (x.placed ≡ packet ∷ drop 1 x.placed) × (x.out ≡ None)
HasComeFor c (Closed output) sending receiving = (x : Sending) × (sending ≡ Some x) × (x.connection ≡ c) × (x.unpublished ≡ 0)

-- So it is for the connection that a turn changes, if it changes one.
abbrev pub MayChange : Option ChangeAt → Option Sending → Option Receiving → Type 0
MayChange (Some at) sending receiving = HasComeFor at.connection at.change sending receiving
MayChange None sending receiving = Unit {0}

-- The machine has a connection of which what a seat at its sending end knows is so: there is room for what it placed, and the level that it learnt is one
-- that may be told.
abbrev pub SendingIn : {K : Type 0} → NetValue K → Option Sending → Type 0
SendingIn now (Some sending) = (k : ChannelShown) × (slice_get now.channels sending.connection ≡ Some k) × (length k.packets + length sending.placed ≤ k.capacity) × IsLearnt k sending.learnt
SendingIn now None = Unit {0}

-- The same at its receiving end: what it drew are the oldest packets.
abbrev pub ReceivingIn : {K : Type 0} → NetValue K → Option Receiving → Type 0
ReceivingIn now (Some receiving) = (k : ChannelShown) × (slice_get now.channels receiving.connection ≡ Some k) × IsDrawn k receiving.drawn
ReceivingIn now None = Unit {0}

-- Wherever the machine has this body for process p, and what the seat knows and saw of connections, the turn of p is this event. Here n is the number of
-- processes, m that of connections.
abbrev pub Happens : {K : Type 0} → (NetValue K → Type 0) → ℕ → ℕ → ℕ → BodyValue K → Option Sending → Option Receiving → List Look → Event → Type 0
Happens {K} fits n m p d sending receiving seen e =
    (now : NetValue K) → fits now → slice_get now.bodies p ≡ Some d → SendingIn now sending → ReceivingIn now receiving → AllSeen n now (Some (p, d)) seen → length now.channels ≡ m
    → (level : ℕ) × (event_from (looks_of now.channels) d.process level ≡ Some e)
