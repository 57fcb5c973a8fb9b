-- A worker in the midst of a burst.
use Rattle.std.specs.Prelude.{◌≡◌, ℕ, ◌+◌, ◌<◌, ◌≤◌, nat_lt, if◌then◌else◌, List, [], ◌++◌, All, length, slice_index, Option, None, Some}
use Rattle.atomic_table.specs.Seated.{TableId}
use Rattle.flow_plan.specs.declared.plan.Connection.{Connection}
use Rattle.flow_component.specs.Laws.{Rules}
use Rattle.flow_model.specs.declared.Stage.{Stage}
use Rattle.flow_model.specs.declared.Stage.TheVariants as stages
use Rattle.flow_model.specs.Events.{Event, Gets, Sends}
use Rattle.flow_machine.specs.Values.{BodyValue, NetValue}
use Rattle.flow_floor.specs.Made.{Below}
use Rattle.flow_floor.specs.Plans.{receiver_at}
use Rattle.flow_floor.specs.declared.board.Receiving.{Receiving}
use Rattle.flow_floor.specs.declared.board.Sending.{Sending}
use Rattle.flow_floor.specs.declared.ends.End.{End}
use Rattle.flow_floor.specs.declared.ends.Ends.{Ends}
use Rattle.flow_floor.specs.declared.floor.Held.{Held}
use Rattle.flow_floor.specs.declared.floor.Worker.{Worker}
use Rattle.flow_floor.specs.Bursts.{BeginsWith, turns_from}
use Rattle.flow_floor.specs.Ends.{receiving_at, sending_at}
use Rattle.flow_floor.specs.InHand.{IsHeldAs, IsPending}
use Rattle.flow_floor.specs.Pending.{MachineTurns}
use Rattle.flow_floor.specs.Views.{Move, all_turned}
use Rattle.flow_floor.specs.Workers.{view, woken_of, IsSameSeat, IsSeated}

-- How many packets were drawn, or placed, at an end.
abbrev pub packets_at : Option End → ℕ
packets_at (Some end) = end.packets
packets_at None = 0

-- How many turns were made at both.
abbrev pub turns_at : Ends → ℕ
turns_at ends = packets_at ends.input + packets_at ends.output

-- The end is one of a connection below m.
abbrev pub IsEndBelow : ℕ → Option End → Type 0
IsEndBelow m (Some end) = end.connection < m
IsEndBelow m None = Unit {0}

-- The packets at the end are no more than its connection takes, where these are the capacities.
abbrev pub FitsIn : List ℕ → Option End → Type 0
FitsIn capacities (Some end) = end.packets ≤ slice_index capacities end.connection
FitsIn capacities None = Unit {0}

-- Where the seat receives, no cell is out, and what it drew there, which is something, waits for the stamps of its turns.
abbrev pub IsAtInput : Option End → Option Receiving → Type 0
IsAtInput (Some end) receiving = (y : Receiving) × (receiving ≡ Some y) × (y.connection ≡ end.connection) × (y.out ≡ None) × (y.unwithdrawn ≡ 0) × (length y.drawn ≡ end.packets) × (0 < end.packets)
IsAtInput None receiving = receiving ≡ None

-- Where it sends, no cell is out, and what it placed there, if anything, waits for the stamps of its turns.
abbrev pub IsAtOutput : Option End → Option Sending → Type 0
IsAtOutput (Some end) sending = (x : Sending) × (sending ≡ Some x) × (x.connection ≡ end.connection) × (x.out ≡ None) × (x.unpublished ≡ 0) × (x.unsubtracted ≡ 0) × (x.learnt ≡ None) × (length x.placed ≡ end.packets)
IsAtOutput None sending = sending ≡ None

-- The burst is at an end of connection c; it may come to that, as it is there or at none.
abbrev pub IsEndAt : ℕ → Option End → Type 0
IsEndAt c (Some end) = end.connection ≡ c
IsEndAt c None = ⊥

abbrev pub MayComeTo : ℕ → Option End → Type 0
MayComeTo c (Some end) = end.connection ≡ c
MayComeTo c None = Unit {0}

-- A burst receives packets and sends them.
abbrev pub IsPassed : Event → Type 0
IsPassed (Gets port c packet) = Unit {0}
IsPassed (Sends port c packet) = Unit {0}
IsPassed event = ⊥

-- Once its turns are stamped, the seat has so many takes that aren't withdrawn, and so many puts that aren't published.
abbrev pub taken_by : Option End → Option Receiving
taken_by (Some end) = Some (record (receiving_at end.connection) { unwithdrawn = end.packets })
taken_by None = None

abbrev pub put_by : Option End → Option Sending
put_by (Some end) = Some (record (sending_at end.connection) { unpublished = end.packets })
put_by None = None

-- Whom the puts may unblock, where there are any.
abbrev pub receivers_of : List Connection → Option End → List ℕ
receivers_of plan (Some end) = if nat_lt 0 end.packets then receiver_at plan end.connection else []
receivers_of plan None = []

-- A work is to come at this stage, or the process has failed.
abbrev pub OwesOrFailed : Stage → Type 0
OwesOrFailed (stages.Told answer) = Unit {0}
OwesOrFailed (stages.Failed cause) = Unit {0}
OwesOrFailed stage = ⊥

module _ {K : Type 0} where
  -- The body made one turn more, after which a work is to come, unless the process failed by it.
  pub record IsTurned (old new : BodyValue K) : Type 0 where
    pub turns : new.process.turns ≡ old.process.turns + 1
    pub owes : OwesOrFailed new.process.stage

  -- A burst made these turns, the first of them with this body.
  pub record ArePassed (began : BodyValue K) (turns : List (Move K)) : Type 0 where
    pub begins : BeginsWith began turns
    pub passed : All (λ (t : Move K). IsPassed t.event) turns

  -- The worker holds this body, and is at these ends of connections. Its pending turns are those of a burst, of which the first was made by the body
  -- `began`, and as many as it drew and placed packets. Here n is the number of processes, m that of connections, and these
  -- are their capacities.
  pub record IsInBurst (rules : Rules K) (z : TableId) (n m : ℕ) (capacities : List ℕ) (began : BodyValue K) (w : Worker K) (h : Held K) (ends : Ends) : Type 0 where
    pub seated : IsSeated z n w h
    pub noted : (view w).noted ≡ []
    pub input : IsAtInput ends.input (view w).receiving
    pub output : IsAtOutput ends.output (view w).sending
    pub input_below : IsEndBelow m ends.input
    pub output_below : IsEndBelow m ends.output
    pub fits : FitsIn capacities ends.output
    pub turns : List (Move K)
    pub many : length turns ≡ turns_at ends
    pub passed : ArePassed began turns
    pub pending : IsPending rules n m (view w) turns h.process h.body

  -- The worker made no turn, asked for nothing and made nobody ready.
  pub record GoesOn (old new : Worker K) : Type 0 where
    pub held : (view new).held ≡ (view old).held
    pub made : (view new).made ≡ (view old).made
    pub steps : (view old).steps ≤ (view new).steps
    pub seat : IsSameSeat (view old) (view new)
    pub readied : (view new).readied ≡ (view old).readied
    pub woken : woken_of new ≡ woken_of old

  -- The turns of a burst were stamped, with the stamps from `stamp` on, which is above those of all turns that the worker had made: each is the machine's
  -- turn of its stamp, and the body in hand is the one that the machine has after them, or what its thought made of that.
  pub record MakesBurst (rules : Rules K) (start : NetValue K) (began : BodyValue K) (count : ℕ) (h : Held K) (w : Worker K) (h' : Held K) (w' : Worker K) (stamp : ℕ) : Type 0 where
    pub process : h'.process ≡ h.process
    pub turns : List (Move K)
    pub many : length turns ≡ count
    pub passed : ArePassed began turns
    pub machine : MachineTurns rules start (view w).made stamp (view w).held turns
    pub body : IsHeldAs rules h.process h'.body (all_turned (view w) stamp turns).held
    pub made : (view w').made ≡ (view w).made ++ turns_from h.process stamp count
    pub above : Below stamp (view w).made
    pub seat : IsSameSeat (view w) (view w')
    pub readied : (view w').readied ≡ (view w).readied
    pub woken : woken_of w' ≡ woken_of w
