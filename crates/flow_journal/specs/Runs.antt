-- A run: its journal, and the state to which that leads.
use Rattle.std.specs.Prelude.{◌≡◌, ℕ, ◌<◌, ◌≤◌, List, length}
use Rattle.flow_component.specs.Laws.{Rules, AtMostOneOutcome}
use Rattle.flow_model.specs.States.{State}
use Rattle.flow_model.specs.Schedules.{Journal, Leads, Prefix, SettlesAll}
use Rattle.flow_model.specs.Robin.{RoundRobin}
use Rattle.flow_model.specs.Verdicts.{Quiet}
use Rattle.flow_model.specs.Places.{OnePlace}
use Rattle.flow_model.specs.Order.{InOrder}
use Rattle.flow_model.specs.Plans.{start_of, StartsWell}
use Rattle.flow_plan.specs.Network.{Network as Plan}
use Rattle.flow_model.specs.Stands.{StandsForOpen}
use Rattle.flow_model.specs.Fit.{Fit}
use Rattle.flow_machine.specs.Values.{NetValue, shown_net}
use Rattle.flow_machine.specs.Starts.{StartsNet}
use Rattle.flow_machine.specs.Solo.{Goes, ReachesNet, round_robin}
use Rattle.flow_machine.specs.Quiet.{IsQuietNet}
use Rattle.flow_machine.specs.Logs.{turns_made}
use Rattle.flow_journal.specs.declared.merge.Journal.{Journal as ProgramJournal}
use Rattle.flow_journal.specs.declared.refusal.Refusal.{Refusal}
use Rattle.flow_journal.specs.declared.refusal.ReplayStop.TheVariants.{NoTurn}
use Rattle.flow_journal.specs.Journals.{NamesTurns, NamesSeen}
use Rattle.flow_journal.specs.Replays.{schedule_of, replayed, StopsFrom, StopsAtTurn}

-- The journal is a schedule from the start of the plan with these components, which leads to this last state; after each of its prefixes each packet is
-- in one place and each connection is in order. (So it is of every run, whoever makes its turns.)
pub record IsScheduled {K : Type 0} (rules : Rules K) (plan : Plan) (components : List K) (journal : Journal) (last : State K) : Type 0 where
  pub leads : Leads rules (start_of plan components) journal last
  pub prefixes : (front : Journal) (mid : State K) → Prefix rules (start_of plan components) journal last front mid → OnePlace mid × InOrder mid

-- A run by so many workers to its end: its journal is a schedule, and after it no process can go on. Without workers one thread makes the turns, and then
-- the journal is the round robin. (Turns of workers are a schedule and mostly no round robin, and what is made again from a part of a journal needn't end
-- quiet.)
pub record IsRun {K : Type 0} (rules : Rules K) (workers : ℕ) (plan : Plan) (components : List K) (journal : Journal) (last : State K) : Type 0 where
  pub schedule : IsScheduled rules plan components journal last
  pub quiet : Quiet last
  pub robin : workers ≡ 0 → RoundRobin rules (start_of plan components) journal last

-- The net has come out of such a run: it stands for the last state, in which each component still fits its process.
pub record ComesOfRun {K : Type 0} (rules : Rules K) (workers : ℕ) (plan : Plan) (components : List K) (journal : Journal) (net : NetValue K) : Type 0 where
  pub last : State K
  pub run : IsRun rules workers plan components journal last
  pub stands : StandsForOpen (shown_net net) last
  pub fit : Fit rules last
  pub count : length last.kept.processes ≡ length plan.processes

-- A net that started from a plan and went round until it was quiet has come out of a run on one thread, whose journal its turns and numbers are.
abbrev pub RoundsAreRuns : {K : Type 0} → Rules K → Type 0
RoundsAreRuns {K} rules =
    (plan : Plan) (components : List K) (start net : NetValue K) (turns seen : List ℕ)
    → StartsWell rules plan components
    → StartsNet plan components start
    → Goes rules (round_robin rules) start (turns_made start) net (turns_made net)
    → NamesTurns net turns
    → NamesSeen net seen
    → ComesOfRun rules 0 plan components (record { turns = turns; seen = seen }) net

-- A net that started from a plan, and went on by turns and works in some order until it was quiet, has come out of a run by workers, however many they
-- were, whose journal its turns and numbers are.
abbrev pub ReachesAreRuns : {K : Type 0} → Rules K → Type 0
ReachesAreRuns {K} rules =
    (workers : ℕ) (plan : Plan) (components : List K) (start net : NetValue K) (turns seen : List ℕ)
    → 0 < workers
    → StartsWell rules plan components
    → StartsNet plan components start
    → ReachesNet rules start net
    → IsQuietNet net
    → NamesTurns net turns
    → NamesSeen net seen
    → ComesOfRun rules workers plan components (record { turns = turns; seen = seen }) net

-- The net has come out of turns that are a schedule from the start of the plan: it stands for the state to which they lead, in which each component still
-- fits its process. (That state needn't be quiet.)
pub record ComesOfSchedule {K : Type 0} (rules : Rules K) (plan : Plan) (components : List K) (journal : Journal) (net : NetValue K) : Type 0 where
  pub last : State K
  pub schedule : IsScheduled rules plan components journal last
  pub stands : StandsForOpen (shown_net net) last
  pub fit : Fit rules last
  pub count : length last.kept.processes ≡ length plan.processes

-- The net has come out of turns amid a run: it stands for a state in which each component still fits its process, and with the works done that are still to
-- come there, whatever comes of them, the journal is a schedule from the start of the plan that leads to what stands then. (That state needn't be quiet.)
pub record ComesOfStretch {K : Type 0} (rules : Rules K) (plan : Plan) (components : List K) (journal : Journal) (net : NetValue K) : Type 0 where
  pub now : State K
  pub stands : StandsForOpen (shown_net net) now
  pub fit : Fit rules now
  pub count : length now.kept.processes ≡ length plan.processes
  pub schedule : (last : State K) → SettlesAll rules now last → IsScheduled rules plan components journal last

-- A net that started from a plan, and went on by turns and works in some order, has come out of such turns, and its turns and numbers are their journal.
abbrev pub ReachesAreScheduled : {K : Type 0} → Rules K → Type 0
ReachesAreScheduled {K} rules =
    (plan : Plan) (components : List K) (start net : NetValue K) (turns seen : List ℕ)
    → StartsWell rules plan components
    → StartsNet plan components start
    → ReachesNet rules start net
    → NamesTurns net turns
    → NamesSeen net seen
    → ComesOfStretch rules plan components (record { turns = turns; seen = seen }) net

-- Where components come to one outcome, and the works that are still to come in such a net come to some, no replay of its journal that starts from the
-- plan stops at a turn.
abbrev pub StretchesGoAgain : {K : Type 0} → Rules K → Type 0
StretchesGoAgain {K} rules =
    (plan : Plan) (components : List K) (start net : NetValue K) (journal : ProgramJournal) (last : State K) (place p : ℕ) (refusal : Refusal)
    → AtMostOneOutcome rules
    → StartsWell rules plan components
    → StartsNet plan components start
    → (stretch : ComesOfStretch rules plan components (schedule_of journal) net)
    → SettlesAll rules stretch.now last
    → StopsFrom rules start journal (NoTurn place p refusal)
    → ⊥

-- A net that started from a plan and made the turns of a journal again has come out of a schedule, and the schedule is this journal.
abbrev pub ReplaysAreScheduled : {K : Type 0} → Rules K → Type 0
ReplaysAreScheduled {K} rules =
    (plan : Plan) (components : List K) (start net : NetValue K) (journal : ProgramJournal)
    → StartsWell rules plan components
    → StartsNet plan components start
    → Goes rules (replayed rules journal) start (turns_made start) net (turns_made net)
    → ComesOfSchedule rules plan components (schedule_of journal) net

-- Where the replay of a net that started from a plan stops, the journal stops from the start of the plan: at the same turn, and for the same reason.
abbrev pub StopsAreFromTheStart : {K : Type 0} → Rules K → Type 0
StopsAreFromTheStart {K} rules =
    (plan : Plan) (components : List K) (start : NetValue K) (journal : ProgramJournal) (place p : ℕ) (refusal : Refusal)
    → StartsWell rules plan components
    → StartsNet plan components start
    → StopsFrom rules start journal (NoTurn place p refusal)
    → StopsAtTurn rules (start_of plan components) (schedule_of journal) place p refusal

-- A schedule from the start of a plan has no more seen numbers than turns: a turn sees one number at most.
abbrev pub SeesNoMoreThanTurns : {K : Type 0} → Rules K → Type 0
SeesNoMoreThanTurns {K} rules = (plan : Plan) (components : List K) (journal : Journal) (last : State K) → IsScheduled rules plan components journal last → length journal.seen ≤ length journal.turns
