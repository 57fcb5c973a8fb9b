-- The first half of the rule: what runs is a schedule.
use Rattle.std.specs.Prelude.{◌≡◌, ℕ, ◌+◌, ◌<◌, ◌≤◌, ◌⊎◌, List, [], ◌∷◌, ◌++◌, length, slice_index, slice_get, Option, Some, None, All}
use mathlib.Core.Option.{some}
use lib.ListN.{get_elem?}
use Rattle.atomic_table.specs.Table.{State}
use Rattle.flow_component.specs.Laws.{Rules}
use Rattle.flow_model.specs.Stands.{ChannelShown}
use Rattle.flow_machine.specs.Values.{BodyValue, NetValue}
use Rattle.flow_machine.specs.Logs.{Logged, turns_made}
use Rattle.flow_machine.specs.FitNets.{FitNet}
use Rattle.flow_machine.specs.Solo.{GoesBy, reached}
use Rattle.flow_machine.specs.Thoughts.{SameBody, WorkedBody, KeepsTurns}
use Rattle.flow_ring.specs.declared.TheConstants.{FIELD}
use Rattle.flow_ring.specs.Words.{free_word, level_in, senders_in}
use Rattle.flow_ring.specs.Places.{level_rank, gate_rank, clock_rank, rank_count, puts_slot, takes_slot, place_slot, slot_count}
use Rattle.flow_floor.specs.Made.{turns_by}
use Rattle.flow_floor.specs.Wired.{IsInput}
use Rattle.flow_floor.specs.declared.board.Slot.{Slot}
use Rattle.flow_floor.specs.declared.board.Slot.TheVariants as slot
use Rattle.flow_floor.specs.declared.board.Sending.{Sending}
use Rattle.flow_floor.specs.declared.board.Receiving.{Receiving}
use Rattle.flow_floor.specs.declared.board.View.{View}
use Rattle.flow_floor.specs.declared.board.Look.{Look}
use Rattle.flow_floor.specs.Ends.{Sender, Receiver, sending_of, receiving_of, is_shared, gate_word, capacities_of, IsLearnt, IsDrawn, IsDrawing, IsPlacing, IsKept, IsSaid, Sends, Receives}

-- A process word that says that some seat holds the process, and one that says that none does.
abbrev pub IsTaken : ℕ → Type 0
IsTaken w = (w ≡ 1) ⊎ (w ≡ 3)

-- A word by which no worker holds the process.
abbrev pub IsFree : ℕ → Type 0
IsFree w = (w ≡ 0) ⊎ ((w ≡ 2) ⊎ ((w ≡ 4) ⊎ (w ≡ 6)))

-- Nothing is in the connection, and no sender is open.
abbrev pub IsOver : ChannelShown → Type 0
IsOver k = (length k.packets ≡ 0) × (k.open_senders ≡ 0)

-- The body is this one, or comes of it by the work that was still to come. Its turns stay.
abbrev pub Rests : {K : Type 0} → Rules K → BodyValue K → BodyValue K → Type 0
Rests rules old new = (SameBody old new ⊎ WorkedBody rules old new) × KeepsTurns old new

module _ {K : Type 0} where
  abbrev pub Holds : (ℕ → Option ℕ) → NetValue K → ℕ → Option (ℕ × BodyValue K) → Type 0
  Holds holder now j None = Unit {0}
  Holds holder now j (Some held) = (holder held.0 ≡ Some j) × (slice_get now.bodies held.0 ≡ Some held.1)

-- What stands beside the table: the net as it would be if all were put back where each stamped turn is made; its turns since the floor was opened, in
-- the order of their stamps, and the seats that made them; which seat holds which process; and who is at the ends of each connection.
pub record Beside (K : Type 0) : Type 0 where
  pub now : NetValue K
  pub log : List Logged
  pub by : List ℕ
  pub holder : ℕ → Option ℕ
  pub senders : ℕ → Sender
  pub receivers : ℕ → Receiver

module _ {K : Type 0} where
  -- This is at home in the slot.
  abbrev pub IsHome : State (Slot K) (View K) → ℕ → Slot K → Type 0
  IsHome s place x = get_elem? s.homes place ≡ some (some x)

  -- Bodies. A process that no seat holds has its body at home. That of a held one is with the seat, which knows what the machine has of it.
  abbrev pub Stands : State (Slot K) (View K) → ℕ → BodyValue K → Option ℕ → Type 0
  Stands s p b None = IsFree (slice_index s.words p) × IsHome s p (slot.Body b)
  Stands s p b (Some j) = IsTaken (slice_index s.words p) × ((v : View K) × (get_elem? s.views j ≡ some v) × (v.held ≡ Some (p, b)))

  -- This number lies in its slot; or it is out with a seat that knows the place of the last packet that it counts.
  abbrev pub CountLies : State (Slot K) (View K) → ℕ → ℕ → Option ℕ → Type 0
  CountLies s place count None = IsHome s place (slot.Count count)
  CountLies s place count (Some last) = last + 1 ≡ count

  -- Connections. How connection c lies on the table, which the machine has as k, where the seat that sends there has come so far, and the one that
  -- receives there.
  pub record LiesSo (start : NetValue K) (s : State (Slot K) (View K)) (c : ℕ) (k : ChannelShown) (sending : Sending) (receiving : Receiving) : Type 0 where
    -- The level word has the packets of the machine's list, with those that were taken and aren't withdrawn, less those that were put and aren't
    -- published; and the open senders, with those that were closed and aren't subtracted.
    pub level : ℕ
    pub word : slice_index s.words (level_rank (length start.bodies) c) ≡ free_word level (k.open_senders + sending.unsubtracted)
    pub counted : level + sending.unpublished ≡ length k.packets + receiving.unwithdrawn
    -- The drawn packets are the oldest, and the level counts all that were drawn.
    pub drawn : IsDrawn k receiving.drawn
    pub counts : length receiving.drawn + receiving.unwithdrawn ≤ level
    -- There is room for all that is in the connection, on its way in, or on its way out.
    pub room : length k.packets + receiving.unwithdrawn + length sending.placed ≤ k.capacity
    pub few : (k.capacity < FIELD) × (k.open_senders + sending.unsubtracted < FIELD)
    -- Whoever has put a packet is still an open sender.
    pub sends : 0 < sending.unpublished → 0 < k.open_senders
    pub learnt : IsLearnt k sending.learnt
    -- From the oldest packet's on, the cells of the drawn packets are empty; those behind them have the machine's packets and then the placed ones,
    -- and are empty where there are no more.
    pub size : k.capacity ≡ slice_index (capacities_of start) c
    pub emptied : (i : ℕ) → i < length receiving.drawn → IsDrawing receiving i ⊎ IsHome s (place_slot (length start.bodies) (capacities_of start) c (k.takes + i)) (slot.Cell None)
    pub filled : (i : ℕ) → length receiving.drawn ≤ i → i < k.capacity
        → IsPlacing k sending i ⊎ IsHome s (place_slot (length start.bodies) (capacities_of start) c (k.takes + i)) (slot.Cell (slice_get (k.packets ++ sending.placed) i))
    -- As many were put as were taken and are there. The numbers in the slots count the placed and the drawn ones too.
    pub numbers : k.puts ≡ k.takes + length k.packets
    pub puts : CountLies s (puts_slot (length start.bodies) c) (k.puts + length sending.placed) sending.out
    pub takes : CountLies s (takes_slot (length start.bodies) (length (capacities_of start)) c) (k.takes + length receiving.drawn) receiving.out

  -- The same where these seats are at its ends; and the gate word is 1 just where a seat is at the sending end, and several send there.
  pub record Lies (start : NetValue K) (s : State (Slot K) (View K)) (c : ℕ) (k : ChannelShown) (sender : Sender) (receiver : Receiver) : Type 0 where
    pub gated : slice_index s.words (gate_rank (length start.bodies) (length (capacities_of start)) c) ≡ gate_word (is_shared start c) sender
    pub so : LiesSo start s c k (sending_of c sender) (receiving_of c receiver)

  -- Looks. What was looked at for the present wish of a held process is still so: an input that was seen non-empty isn't empty, and one that was seen
  -- empty without open sender is so.
  abbrev pub SeenTrue : ℕ → NetValue K → BodyValue K → Look → Type 0
  SeenTrue n now b look = (c : ℕ) (k : ChannelShown) → look.word ≡ level_rank n c → slice_get now.channels c ≡ Some k → IsInput b c
      → (0 < level_in look.read → 0 < length k.packets) × (level_in look.read ≡ 0 → senders_in look.read ≡ 0 → IsOver k)

  abbrev pub AllSeen : ℕ → NetValue K → Option (ℕ × BodyValue K) → List Look → Type 0
  AllSeen n now None seen = Unit {0}
  AllSeen n now (Some held) [] = Unit {0}
  AllSeen n now (Some held) (look ∷ seen) = SeenTrue n now held.1 look × AllSeen n now (Some held) seen

  -- What seat j knows. One that holds no process is at no end.
  pub record Knows (g : Beside K) (n first : ℕ) (j : ℕ) (v : View K) : Type 0 where
    pub holds : Holds g.holder g.now j v.held
    pub sending : IsKept (λ (x : Sending). x.connection) g.senders j v.sending
    pub receiving : IsKept (λ (y : Receiving). y.connection) g.receivers j v.receiving
    pub idle : v.held ≡ None → (v.sending ≡ None) × (v.receiving ≡ None)
    pub made : v.made ≡ turns_by j first g.by g.log
    pub seen : AllSeen n g.now v.held v.seen

  -- Seat j says so itself that it sends at connection c; that it receives there.
  abbrev pub SaysSending : List (View K) → ℕ → ℕ → Sending → Type 0
  SaysSending views c j sending = IsSaid (λ (x : Sending). x.connection) (λ (v : View K). v.sending) Sends views c j sending

  abbrev pub SaysReceiving : List (View K) → ℕ → ℕ → Receiving → Type 0
  SaysReceiving views c j receiving = IsSaid (λ (y : Receiving). y.connection) (λ (v : View K). v.receiving) Receives views c j receiving

  -- The first half of the rule.
  pub record Flow (rules : Rules K) (start : NetValue K) (s : State (Slot K) (View K)) (g : Beside K) : Type 0 where
    -- stamps
    pub fit : FitNet rules g.now
    pub goes : GoesBy rules (reached rules) start (turns_made start) g.log g.now
    pub clock : slice_index s.words (clock_rank (length start.bodies) (length (capacities_of start))) ≡ turns_made g.now
    pub total : turns_made g.now ≡ turns_made start + length g.log
    pub seats : length g.by ≡ length g.log
    pub inside : All (λ (j : ℕ). j < length s.views) g.by
    -- the table's size
    pub same : (length g.now.bodies ≡ length start.bodies) × (length g.now.channels ≡ length (capacities_of start))
    pub wide : length s.words ≡ rank_count (length start.bodies) (length (capacities_of start))
    pub deep : length s.homes ≡ slot_count (length start.bodies) (capacities_of start)
    -- bodies, connections, and what seats know
    pub each_process : (p : ℕ) (b : BodyValue K) → slice_get g.now.bodies p ≡ Some b → Stands s p b (g.holder p)
    pub each_connection : (c : ℕ) (k : ChannelShown) → slice_get g.now.channels c ≡ Some k → Lies start s c k (g.senders c) (g.receivers c)
    pub each_sender : (c j : ℕ) (sending : Sending) → g.senders c ≡ Some (j, sending) → SaysSending s.views c j sending
    pub each_receiver : (c j : ℕ) (receiving : Receiving) → g.receivers c ≡ Some (j, receiving) → SaysReceiving s.views c j receiving
    pub each_seat : (j : ℕ) (v : View K) → get_elem? s.views j ≡ some v → Knows g (length start.bodies) (turns_made start) j v
