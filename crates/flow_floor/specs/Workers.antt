-- What clauses say of a worker and of what it holds.
use Rattle.std.specs.Prelude.{◌≡◌, ℕ, ◌+◌, ◌<◌, ◌≤◌, List, [], ◌∷◌, ◌++◌, length, IfSome, None, Some}
use Rattle.atomic_table.specs.Seated.{TableId}
use Rattle.flow_packet.specs.Tree.{Tree, kind_of}
use Rattle.flow_packet.specs.Held.{without_packet}
use Rattle.flow_component.specs.Laws.{Rules}
use Rattle.flow_model.specs.Stages.{IsThoughtStage}
use Rattle.flow_machine.specs.Effects.{id_sent}
use Rattle.flow_machine.specs.Nets.{packet_wished}
use Rattle.flow_machine.specs.Values.{BodyValue, NetValue}
use Rattle.flow_floor.specs.Law.{Rests}
use Rattle.flow_floor.specs.Waking.{WordsBlock, AllBlock}
use Rattle.flow_floor.specs.declared.board.Look.{Look}
use Rattle.flow_floor.specs.declared.board.Slot.TheVariants as slot
use Rattle.flow_floor.specs.declared.board.View.{View}
use Rattle.flow_floor.specs.declared.floor.Claim.{Claim}
use Rattle.flow_floor.specs.declared.floor.Claim.TheVariants as claim
use Rattle.flow_floor.specs.declared.floor.Drawn.{Drawn}
use Rattle.flow_floor.specs.declared.floor.Drawn.TheVariants as drawn
use Rattle.flow_floor.specs.declared.floor.Held.{Held}
use Rattle.flow_floor.specs.declared.floor.Placed.{Placed}
use Rattle.flow_floor.specs.declared.floor.Placed.TheVariants as placed
use Rattle.flow_floor.specs.declared.floor.Worker.{Worker}

module _ {K : Type 0} where
  abbrev pub view : Worker K → View K
  view w = w.seat.me.0

  -- The processes that its last call made ready, as it lists them.
  abbrev pub woken_of : Worker K → List ℕ
  woken_of w = w.woken.names.items

  -- The worker is a seat of this table, which has n processes, and holds the process of this body: its place in the table is out, and no other is.
  pub record IsSeated (z : TableId) (n : ℕ) (w : Worker K) (h : Held K) : Type 0 where
    pub table : w.seat.table_id ≡ z
    pub share : 0 < w.seat.me.0.shares
    pub spare : w.seat.me.0.spare ≡ 0
    pub below : h.process < n
    pub base : BodyValue K
    pub held : w.seat.me.0.held ≡ Some (h.process, base)
    pub slots : w.seat.me.1 ≡ (h.process, slot.Vacant) ∷ []

  -- The worker is a seat of this table, and owes nothing: it is at no end of a connection, has noted no process, and has no spare token.
  pub record IsCalm (z : TableId) (w : Worker K) : Type 0 where
    pub table : w.seat.table_id ≡ z
    pub share : 0 < w.seat.me.0.shares
    pub sending : w.seat.me.0.sending ≡ None
    pub receiving : w.seat.me.0.receiving ≡ None
    pub noted : w.seat.me.0.noted ≡ []
    pub spare : w.seat.me.0.spare ≡ 0

  -- It holds nothing.
  pub record IsIdle (z : TableId) (w : Worker K) : Type 0 where
    pub calm : IsCalm z w
    pub held : w.seat.me.0.held ≡ None
    pub slots : w.seat.me.1 ≡ []

  -- The body agrees with what the machine has, or is what its thought made of that by a work that isn't in the list yet. So all its turns are stamped.
  pub record Agrees (rules : Rules K) (w : Worker K) (h : Held K) : Type 0 where
    pub base : BodyValue K
    pub held : w.seat.me.0.held ≡ Some (h.process, base)
    pub rests : Rests rules base h.body
    pub whole : h.body.leaving ≡ None

  -- The body is this worker's.
  pub record IsHeldBy (rules : Rules K) (z : TableId) (n : ℕ) (w : Worker K) (h : Held K) : Type 0 where
    pub calm : IsCalm z w
    pub below : h.process < n
    pub agrees : Agrees rules w h
    pub slots : w.seat.me.1 ≡ (h.process, slot.Vacant) ∷ []

  -- The body is this worker's, which has noted these processes, and is at no end of a connection.
  pub record IsWaking (rules : Rules K) (z : TableId) (n : ℕ) (w : Worker K) (h : Held K) (notes : List ℕ) : Type 0 where
    pub table : w.seat.table_id ≡ z
    pub share : 0 < w.seat.me.0.shares
    pub sending : w.seat.me.0.sending ≡ None
    pub receiving : w.seat.me.0.receiving ≡ None
    pub noted : w.seat.me.0.noted ≡ notes
    pub spare : w.seat.me.0.spare ≡ 0
    pub below : h.process < n
    pub agrees : Agrees rules w h
    pub slots : w.seat.me.1 ≡ (h.process, slot.Vacant) ∷ []

  -- Beside the process at hand all stays: the worker's shares, whether it has read 0, and what it asked for.
  pub record IsSameSeat (old new : View K) : Type 0 where
    pub shares : new.shares ≡ old.shares
    pub zero : new.read_zero ≡ old.read_zero
    pub asked : new.asked ≡ old.asked

  -- Looks were made and nothing else: they are kept in front of those that were kept before.
  pub record LooksOn (old new : View K) : Type 0 where
    pub made : new.made ≡ old.made
    pub steps : old.steps ≤ new.steps
    pub more : List Look
    pub seen : new.seen ≡ more ++ old.seen

  -- It holds nothing and has noted nobody, and has this many spare tokens.
  pub record IsDone (z : TableId) (w : Worker K) (tokens : ℕ) : Type 0 where
    pub table : w.seat.table_id ≡ z
    pub share : 0 < w.seat.me.0.shares
    pub sending : w.seat.me.0.sending ≡ None
    pub receiving : w.seat.me.0.receiving ≡ None
    pub noted : w.seat.me.0.noted ≡ []
    pub spare : w.seat.me.0.spare ≡ tokens
    pub held : w.seat.me.0.held ≡ None
    pub slots : w.seat.me.1 ≡ []

  -- What was looked at blocks the process, as long as the words still do; and it owes no work.
  abbrev pub SeenBlocks : NetValue K → BodyValue K → List Look → Type 0
  SeenBlocks start d seen = IsThoughtStage d.process.stage × ((words : List ℕ) → AllBlock (length start.bodies) start.channels words d seen → WordsBlock (length start.bodies) start.channels words d d.process.stage)

  abbrev pub MatchClaim : Claim K → (Held K → Type 0) → (ℕ → Type 0) → Type 0
  MatchClaim (claim.Held h) P Q = P h
  MatchClaim (claim.NotReady n) P Q = Q n

-- What holds of a look to receive, by its cases.
abbrev pub MatchDrawn : Drawn → (ℕ → Type 0) → (ℕ → Tree → Type 0) → Type 0
MatchDrawn (drawn.Nothing word) P Q = P word
MatchDrawn (drawn.Packet place packet) P Q = Q place packet

-- What holds of a look to send, by its cases.
abbrev pub MatchPlaced : Placed → (ℕ → Type 0) → Type 0 → Type 0
MatchPlaced (placed.Full word) P Q = P word
MatchPlaced placed.Put P Q = Q

-- The packet of its wish has left the body that is held, and nothing else has changed.
abbrev pub HandsOut : {K : Type 0} → Held K → Held K → Tree → Type 0
HandsOut old new packet = (new.process ≡ old.process) × (new.starved ≡ old.starved) × (packet_wished old.body.process ≡ Some packet) × IfSome (id_sent old.body.process.stage) (λ id. new.body ≡ record old.body { process = record old.body.process { held = without_packet old.body.process.held id }; leaving = Some (kind_of packet); places = old.body.places + 1 })
