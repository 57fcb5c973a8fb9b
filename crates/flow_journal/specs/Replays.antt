-- What it is to make a journal again: the schedule of the machine by it, or the first turn of it that isn't defined. (This project's own.)
use Rattle.std.specs.Prelude.{◌≡◌, ◌≢◌, ◌⊎◌, ℕ, ◌<◌, ◌≤◌, List, [], ◌∷◌, Some, length, slice_get}
use Rattle.flow_component.specs.declared.Fail.{Fail}
use Rattle.flow_component.specs.declared.Port.{Port}
use Rattle.flow_component.specs.declared.Wish.TheVariants as wishes
use Rattle.flow_component.specs.Laws.{Rules, AtMostOneOutcome}
use Rattle.flow_model.specs.declared.Stage.{Stage}
use Rattle.flow_model.specs.declared.Stage.TheVariants as stages
use Rattle.flow_model.specs.States.{Process, Channel, Kept, State, output_at}
use Rattle.flow_model.specs.Schedules.{then_turns, Leads, SettlesAll}
use Rattle.flow_model.specs.Schedules.{Journal as Schedule}
use Rattle.flow_model.specs.Verdicts.{block}
use Rattle.flow_model.specs.Stands.{StandsForOpen}
use Rattle.flow_model.specs.Fit.{Fit}
use Rattle.flow_machine.specs.Values.{NetValue, shown_net}
use Rattle.flow_journal.specs.declared.merge.Journal.{Journal}
use Rattle.flow_journal.specs.declared.refusal.Refusal.{Refusal}
use Rattle.flow_journal.specs.declared.refusal.Refusal.TheVariants.{NoProcess, Over, Blocked, Seen}
use Rattle.flow_journal.specs.declared.refusal.ReplayStop.{ReplayStop}
use Rattle.flow_journal.specs.declared.refusal.ReplayStop.TheVariants.{NoTurn, NoMemory}

-- The journal, as the machine knows it.
abbrev pub schedule_of : Journal → Schedule
schedule_of journal = record { turns = journal.turns; seen = journal.seen }

-- A process at this stage is over: it has ended or failed.
abbrev pub IsOver : Stage → Type 0
IsOver stage = (stage ≡ stages.Ended) ⊎ ((cause : Fail) × (stage ≡ stages.Failed cause))

-- Process p is there, and over.
pub record HasOver {K : Type 0} (kept : Kept K) (p : ℕ) : Type 0 where
  pub process : Process K
  pub there : slice_get kept.processes p ≡ Some process
  pub over : IsOver process.stage

-- Process p wishes to learn how full an output is.
pub record AsksLevel {K : Type 0} (kept : Kept K) (p : ℕ) : Type 0 where
  pub process : Process K
  pub port : Port
  pub there : slice_get kept.processes p ≡ Some process
  pub asks : process.stage ≡ stages.Wishing (wishes.Level port)

-- Process p wishes to learn how full an output is, and this number doesn't lie from the packets in the connection there to its capacity.
pub record IsOutside {K : Type 0} (kept : Kept K) (p n : ℕ) : Type 0 where
  pub asks : AsksLevel kept p
  pub connection : ℕ
  pub channel : Channel
  pub output : output_at asks.process asks.port.0 ≡ Some connection
  pub at : slice_get kept.channels connection ≡ Some channel
  pub outside : (n < length channel.packets) ⊎ (channel.capacity < n)

-- The first of these numbers can't be told to process p, which asks for one: there is none, or it lies outside.
abbrev pub CannotSee : {K : Type 0} → Kept K → ℕ → List ℕ → Type 0
CannotSee kept p [] = AsksLevel kept p
CannotSee kept p (n ∷ seen) = IsOutside kept p n

-- Process p has no turn by which it sees the first of these numbers, where its turn sees one; and this is why.
abbrev pub Refuses : {K : Type 0} → Kept K → ℕ → List ℕ → Refusal → Type 0
Refuses kept p seen NoProcess = length kept.processes ≤ p
Refuses kept p seen Over = HasOver kept p
Refuses kept p seen (Blocked waits) = block kept p ≡ Some waits
Refuses kept p seen Seen = CannotSee kept p seen

-- The first of these turns is refused to its process; or there is no turn left, but numbers are, which is told of process 0.
abbrev pub StopsAtOnce : {K : Type 0} → Kept K → List ℕ → List ℕ → ℕ → Refusal → Type 0
StopsAtOnce kept [] seen p refusal = (seen ≢ []) × (p ≡ 0) × (refusal ≡ Seen)
StopsAtOnce kept (q ∷ turns) seen p refusal = (p ≡ q) × Refuses kept q seen refusal

-- The journal is no schedule from s: its turns before this place, with the numbers that they take, lead to a state in which the rest stops at once.
pub record StopsAtTurn {K : Type 0} (rules : Rules K) (s : State K) (journal : Schedule) (place p : ℕ) (refusal : Refusal) : Type 0 where
  pub front : Schedule
  pub back : Schedule
  pub mid : State K
  pub whole : journal ≡ then_turns front back
  pub before : length front.turns ≡ place
  pub leads : Leads rules s front mid
  pub stops : StopsAtOnce mid.kept back.turns back.seen p refusal

-- All works that were pending are done, and then exactly this journal leads on.
abbrev pub replayed : {K : Type 0} → Rules K → Journal → Schedule → State K → State K → Type 0
replayed {K} rules journal made s s' = (made ≡ schedule_of journal) × ((t : State K) × SettlesAll rules s t × Leads rules t made s')

-- From each fit state that the net stands for, with its pending works done, the journal stops there.
abbrev pub StopsFrom : {K : Type 0} → Rules K → NetValue K → Journal → ReplayStop → Type 0
StopsFrom {K} rules net journal (NoTurn place p refusal) =
    (s : State K) → Fit rules s → StandsForOpen (shown_net net) s → (t : State K) × SettlesAll rules s t × StopsAtTurn rules t (schedule_of journal) place p refusal
StopsFrom rules net journal NoMemory = Unit {0}

-- Where components come to one outcome a journal that stops is no schedule.
abbrev pub StopsAreNoSchedules : {K : Type 0} → Rules K → Type 0
StopsAreNoSchedules {K} rules =
    AtMostOneOutcome rules → (s : State K) (journal : Schedule) (place p : ℕ) (refusal : Refusal) (s' : State K) → StopsAtTurn rules s journal place p refusal → Leads rules s journal s' → ⊥
