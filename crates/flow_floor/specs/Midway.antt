-- A worker in the midst of a turn.
use Rattle.std.specs.Prelude.{◌≡◌, ℕ, ◌<◌, List, [], ◌∷◌, ◌++◌, Option, None, Some}
use Rattle.atomic_table.specs.Seated.{TableId}
use Rattle.flow_packet.specs.Tree.{Tree}
use Rattle.flow_component.specs.Laws.{Rules}
use Rattle.flow_model.specs.Events.{Event}
use Rattle.flow_machine.specs.Nets.{BodyTurn}
use Rattle.flow_machine.specs.Values.{NetValue}
use Rattle.flow_floor.specs.Made.{Below}
use Rattle.flow_floor.specs.Turning.{MachineTurn}
use Rattle.flow_floor.specs.declared.board.Receiving.{Receiving}
use Rattle.flow_floor.specs.declared.board.Sending.{Sending}
use Rattle.flow_floor.specs.declared.board.Slot.TheVariants as slot
use Rattle.flow_floor.specs.declared.floor.Held.{Held}
use Rattle.flow_floor.specs.declared.floor.Idling.{Idling}
use Rattle.flow_floor.specs.declared.floor.Idling.TheVariants as idling
use Rattle.flow_floor.specs.declared.floor.Sent.{Sent}
use Rattle.flow_floor.specs.declared.floor.Sent.TheVariants as sent
use Rattle.flow_floor.specs.declared.floor.Signalled.{Signalled}
use Rattle.flow_floor.specs.declared.floor.Signalled.TheVariants as signalled
use Rattle.flow_floor.specs.declared.floor.Worker.{Worker}
use Rattle.flow_floor.specs.Ends.{receiving_at, sending_at}
use Rattle.flow_floor.specs.Workers.{view, woken_of, Agrees, IsSameSeat}

-- At the receiving end of connection c a seat has drawn this packet.
abbrev pub drawn_at : ℕ → Tree → Receiving
drawn_at c packet = record (receiving_at c) { drawn = packet ∷ [] }

-- It has taken one there that isn't withdrawn.
abbrev pub taken_at : ℕ → Receiving
taken_at c = record (receiving_at c) { unwithdrawn = 1 }

-- At the sending end of connection c a seat has placed this packet.
abbrev pub placed_at : ℕ → Tree → Sending
placed_at c packet = record (sending_at c) { placed = packet ∷ [] }

-- It has put one there that isn't published.
abbrev pub put_at : ℕ → Sending
put_at c = record (sending_at c) { unpublished = 1 }

-- It has closed a sender there that isn't subtracted.
abbrev pub closed_at : ℕ → Sending
closed_at c = record (sending_at c) { unsubtracted = 1 }

-- It has learnt this level there.
abbrev pub learnt_at : ℕ → ℕ → Sending
learnt_at c level = record (sending_at c) { learnt = Some level }

-- Where a worker receives that found this at an automatic input; that knows what an idle process does.
abbrev pub receiving_by : Signalled → Option Receiving
receiving_by (signalled.Packet c packet) = Some (drawn_at c packet)
receiving_by (signalled.Sender word) = None
receiving_by signalled.Over = None

abbrev pub receiving_for : Idling → Option Receiving
receiving_for (idling.Signal c packet) = Some (drawn_at c packet)
receiving_for idling.Start = None
receiving_for idling.Finish = None
receiving_for (idling.Dormant word) = None

-- What holds of a send, by what it came to.
abbrev pub MatchSent : Sent → (ℕ → Type 0) → (ℕ → Type 0) → Type 0
MatchSent (sent.Full word) P Q = P word
MatchSent (sent.Stamped stamp) P Q = Q stamp

module _ {K : Type 0} where
  -- The body is this worker's, which is at these ends of connections, and has noted these processes. All its turns are stamped.
  pub record IsMidway (rules : Rules K) (z : TableId) (n : ℕ) (w : Worker K) (h : Held K) (sending : Option Sending) (receiving : Option Receiving) (notes : List ℕ) : Type 0 where
    pub table : w.seat.table_id ≡ z
    pub share : 0 < w.seat.me.0.shares
    pub sends : w.seat.me.0.sending ≡ sending
    pub receives : w.seat.me.0.receiving ≡ receiving
    pub noted : w.seat.me.0.noted ≡ notes
    pub spare : w.seat.me.0.spare ≡ 0
    pub below : h.process < n
    pub agrees : Agrees rules w h
    pub slots : w.seat.me.1 ≡ (h.process, slot.Vacant) ∷ []

  -- One turn was stamped: the held body made it, and it is the machine's turn of this stamp, after the turns that its worker had made, whose stamps are
  -- below. It is the worker's last now; the worker has made nobody ready, and its last look is the one that it was.
  pub record MakesTurn (rules : Rules K) (start : NetValue K) (h : Held K) (w : Worker K) (h' : Held K) (w' : Worker K) (event : Event) (stamp : ℕ) : Type 0 where
    pub process : h'.process ≡ h.process
    pub body : BodyTurn h.body event stamp h'.body
    pub machine : MachineTurn rules start (view w).made stamp h.process h.body event
    pub above : Below stamp (view w).made
    pub made : (view w').made ≡ (view w).made ++ (stamp, h.process) ∷ []
    pub seat : IsSameSeat (view w) (view w')
    pub readied : (view w').readied ≡ (view w).readied
    pub woken : woken_of w' ≡ woken_of w
    pub look : (view w').look ≡ (view w).look
