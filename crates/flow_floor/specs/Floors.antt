-- What callers of other crates say of a floor, its workers and what they hold.
use Rattle.std.specs.Prelude.{◌≡◌, ℕ, ◌<◌, ◌≤◌, true, false, List, [], ◌∷◌, ◌++◌, All, length, slice_index, Option}
use Rattle.std.specs.List.{list_any}
use Rattle.flow_component.specs.Laws.{Rules}
use Rattle.flow_model.specs.Events.{Event}
use Rattle.flow_model.specs.declared.Stage.TheVariants as stages
use Rattle.flow_machine.specs.Nets.{BodyTurn, HasFailed}
use Rattle.flow_machine.specs.Thoughts.{IsNotOver, IsSet, IsUnset}
use Rattle.flow_machine.specs.Values.{BodyValue, NetValue}
use Rattle.flow_machine.specs.declared.answers.Over.{Over}
use Rattle.flow_machine.specs.declared.answers.Over.TheVariants as overs
use Rattle.flow_floor.specs.Made.{Below}
use Rattle.flow_floor.specs.Turning.{MachineTurn}
use Rattle.flow_floor.specs.Wired.{IsWiredIn}
use Rattle.flow_floor.specs.declared.board.Receiving.{Receiving}
use Rattle.flow_floor.specs.declared.board.Sending.{Sending}
use Rattle.flow_floor.specs.declared.ends.Ends.{Ends}
use Rattle.flow_floor.specs.declared.floor.Burst.{Burst}
use Rattle.flow_floor.specs.declared.floor.Floor.{Floor}
use Rattle.flow_floor.specs.declared.floor.Held.{Held}
use Rattle.flow_floor.specs.declared.floor.Turned.{Turned}
use Rattle.flow_floor.specs.declared.floor.Worker.{Worker}
use Rattle.flow_floor.specs.declared.rooms.Rooms.{Rooms}
use Rattle.flow_floor.specs.Bursting.{IsInBurst}
use Rattle.flow_floor.specs.Bursts.{Bursts}
use Rattle.flow_floor.specs.Crew.{IsCrew}
use Rattle.flow_floor.specs.Ends.{capacities_of}
use Rattle.flow_floor.specs.Rooms.{HasRooms}
use Rattle.flow_floor.specs.Midway.{IsMidway}
use Rattle.flow_floor.specs.Turns.{Turns}
use Rattle.flow_floor.specs.Views.{Move, stamping}
use Rattle.flow_floor.specs.Workers.{view, woken_of as listed_by, IsDone, IsHeldBy, IsIdle, IsSameSeat, IsSeated, IsWaking, SeenBlocks}

module _ {K : Type 0} where
  -- The net with which the floor was opened.
  abbrev pub opened_net : Floor K → NetValue K
  opened_net f = f.table.shared.key.value

  -- How many processes it has.
  abbrev pub process_count : Floor K → ℕ
  process_count f = f.layout.processes

  -- How many connections it has.
  abbrev pub connection_count : Floor K → ℕ
  connection_count f = f.layout.connections

  -- There is room for the bodies of the floor and for a list of its processes, and its connections are there, without their packets.
  abbrev pub HasRoomsFor : Floor K → Rooms K → Type 0
  HasRoomsFor f r = HasRooms (process_count f) (opened_net f).channels r

  -- The turns that the worker made: the stamp and the process of each.
  abbrev pub turns_of : Worker K → List (ℕ × ℕ)
  turns_of w = (view w).made

  -- The processes that the worker asked for, each time that it claimed one, and those that it made ready, in order.
  abbrev pub asked_of : Worker K → List ℕ
  asked_of w = (view w).asked

  abbrev pub readied_of : Worker K → List ℕ
  readied_of w = (view w).readied

  -- The processes that its last call made ready, as it lists them.
  abbrev pub woken_of : Worker K → List ℕ
  woken_of w = listed_by w

  -- A call made these processes ready: all that the worker made ready since it began are those that it lists, and they are this floor's.
  pub record Readies (f : Floor K) (old new : Worker K) : Type 0 where
    pub listed : readied_of new ≡ readied_of old ++ woken_of new
    pub below : All (λ p. p < process_count f) (woken_of new)

  -- It made nobody ready, and lists whom it listed before.
  abbrev pub WakesNone : Worker K → Worker K → Type 0
  WakesNone old new = (readied_of new ≡ readied_of old) × (woken_of new ≡ woken_of old)

  -- It made nobody ready but maybe one process, which is this floor's, and lists that behind those that it listed before.
  pub record WakesOne (f : Floor K) (old new : Worker K) : Type 0 where
    pub more : List ℕ
    pub few : length more ≤ 1
    pub below : All (λ p. p < process_count f) more
    pub readied : readied_of new ≡ readied_of old ++ more
    pub woken : woken_of new ≡ woken_of old ++ more

  -- The worker once read that no process is ready or held.
  abbrev pub HasReadZero : Worker K → Type 0
  HasReadZero w = (view w).read_zero ≡ true

  -- Some of these workers once read so.
  abbrev pub SomeReadZero : List (Worker K) → Type 0
  SomeReadZero ws = list_any (λ w. (view w).read_zero) ws ≡ true

  -- The worker has made no turn, and hasn't read 0.
  abbrev pub IsNewWorker : Worker K → Type 0
  IsNewWorker w = (turns_of w ≡ []) × ((view w).read_zero ≡ false)

  -- The worker is one of this floor's, and holds nothing.
  abbrev pub IsIdleAt : Floor K → Worker K → Type 0
  IsIdleAt f w = IsIdle f.table.shared.table_id w

  -- These are all workers of this floor, and none of them holds anything.
  abbrev pub IsCrewOf : Floor K → List (Worker K) → Type 0
  IsCrewOf f ws = IsCrew f.table.shared.table_id ws

  -- The worker is one of this floor's, and holds the process of this body, of which it may have made turns that aren't stamped. It may be at ends of
  -- connections.
  abbrev pub IsSeatedAt : Floor K → Worker K → Held K → Type 0
  IsSeatedAt f w h = IsSeated f.table.shared.table_id (process_count f) w h

  -- The worker is one of this floor's, and holds this body and nothing else.
  abbrev pub IsHeldAt : Rules K → Floor K → Worker K → Held K → Type 0
  IsHeldAt rules f w h = IsHeldBy rules f.table.shared.table_id (process_count f) w h

  -- It holds this body, and has still to wake these processes.
  abbrev pub IsWakingAt : Rules K → Floor K → Worker K → Held K → List ℕ → Type 0
  IsWakingAt rules f w h notes = IsWaking rules f.table.shared.table_id (process_count f) w h notes

  -- It holds this body, is at these ends of connections, and has still to wake these processes.
  abbrev pub IsMidwayAt : Rules K → Floor K → Worker K → Held K → Option Sending → Option Receiving → List ℕ → Type 0
  IsMidwayAt rules f w h sending receiving notes = IsMidway rules f.table.shared.table_id (process_count f) w h sending receiving notes

  -- It is at these ends in the midst of a burst, of which the first turn was made by the body `began`.
  abbrev pub IsInBurstAt : Rules K → Floor K → BodyValue K → Worker K → Held K → Ends → Type 0
  IsInBurstAt rules f began w h ends = IsInBurst rules f.table.shared.table_id (process_count f) (connection_count f) (capacities_of (opened_net f)) began w h ends

  -- The worker is one of this floor's, and holds nothing but so many tokens.
  abbrev pub IsDoneAt : Floor K → Worker K → ℕ → Type 0
  IsDoneAt f w tokens = IsDone f.table.shared.table_id w tokens

  -- The capacity of this connection.
  abbrev pub capacity_of : Floor K → ℕ → ℕ
  capacity_of f c = slice_index (capacities_of (opened_net f)) c

  -- Each connection at a port of the held body, the automatic ports too, is one of this floor's.
  abbrev pub IsWiredAt : Floor K → Held K → Type 0
  IsWiredAt f h = IsWiredIn (connection_count f) h.body

  -- The worker has seen the body that it holds blocked: what it read since the claim, or since its last turn, leaves the process no turn, as long as the
  -- words still say so; and the body owes no work.
  abbrev pub IsStuckAt : Floor K → Worker K → Held K → Type 0
  IsStuckAt f w h = SeenBlocks (opened_net f) h.body (view w).seen

  -- What a call for a turn tells, where the worker and the body that it holds were `w` and `h`, and now are `w'` and `h'`.
  abbrev pub TurnsAt : Rules K → Floor K → Held K → Worker K → Held K → Worker K → Turned → Type 0
  TurnsAt rules f h w h' w' turned = Turns rules (process_count f) (connection_count f) (opened_net f) h w h' w' turned

  -- What a call for a burst of so many turns at most tells, where the worker and the body that it holds were `w` and `h`, and now are `w'` and `h'`.
  abbrev pub BurstsAt : Rules K → Floor K → ℕ → Held K → Worker K → Held K → Worker K → Burst → Type 0
  BurstsAt rules f most h w h' w' burst = Bursts rules (process_count f) (connection_count f) (opened_net f) most h w h' w' burst

  -- The held body may be retired so: its process has ended, or has failed, and the body is set, which is that its component was told its end; or its
  -- last thought found no memory, and it isn't over and isn't set.
  abbrev pub IsOverAs : Over → Held K → Type 0
  IsOverAs overs.Ended h = (h.body.process.stage ≡ stages.Ended) × IsSet h.body
  IsOverAs overs.Failed h = HasFailed h.body.process.stage × IsSet h.body
  IsOverAs overs.Starved h = (h.starved ≡ true) × IsNotOver h.body.process.stage × IsUnset h.body

  -- The worker has the same share of its floor.
  abbrev pub HasSameShare : Worker K → Worker K → Type 0
  HasSameShare old new = (view new).shares ≡ (view old).shares

  -- It has the same share, has read 0 just where it had before, and has asked for nothing.
  abbrev pub IsSameWorker : Worker K → Worker K → Type 0
  IsSameWorker old new = IsSameSeat (view old) (view new)

  -- What a stamp of one turn is told: the turn is this event of the body that is held, and the net is the one that was opened.
  abbrev pub IsDeedOf : Floor K → Held K → Event → List (Move K) → NetValue K → Type 0
  IsDeedOf f h event turns start = (turns ≡ record { body = h.body; event = event } ∷ []) × (start ≡ opened_net f)

  -- One turn was stamped: the held body made it, and it is the machine's turn of this stamp, after the turns that its worker had made, whose stamps are
  -- below; and the worker knows of it, and of nothing else that is new.
  pub record StampsTurn (rules : Rules K) (f : Floor K) (h : Held K) (w : Worker K) (h' : Held K) (w' : Worker K) (event : Event) (stamp : ℕ) : Type 0 where
    pub process : h'.process ≡ h.process
    pub body : BodyTurn h.body event stamp h'.body
    pub machine : MachineTurn rules (opened_net f) (turns_of w) stamp h.process h.body event
    pub above : Below stamp (turns_of w)
    pub view : view w' ≡ stamping (view w) stamp (record { body = h.body; event = event } ∷ [])
    pub woken : woken_of w' ≡ woken_of w
