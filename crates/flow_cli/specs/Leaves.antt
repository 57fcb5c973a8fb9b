-- What a run leaves, and what is told of it; and what is told of a journal that is made again.
use Rattle.std.specs.Prelude.{◌≡◌, ◌<◌, ◌≤◌, ℕ, List, [], Some, Ok, Err, length, map, slice_get, unwrap_or, option_and_then, is_some, true}
use Rattle.std.specs.declared.result.Result.{Result}
use Rattle.flow_limits.specs.declared.TheConstants.{RUN_LIMIT}
use Rattle.flow_plan.specs.Network.{Network}
use Rattle.flow_own.specs.Mixed.{tape_in, IsRecordedIn}
use Rattle.flow_plan.specs.declared.kind.KindSpec.{KindSpec}
use Rattle.flow_offer.specs.Processes.{own_place, own_processes}
use Rattle.flow_tape.specs.Files.{IsWritable as IsTapesWritable}
use Rattle.flow_model.specs.States.{State}
use Rattle.flow_machine.specs.Values.{BodyValue, NetValue}
use Rattle.flow_journal.specs.Files.{IsWritable}
use Rattle.flow_journal.specs.Journals.{NamesTurns, NamesSeen}
use Rattle.flow_journal.specs.Replays.{schedule_of}
use Rattle.flow_journal.specs.declared.merge.Journal.{Journal}
use Rattle.flow_journal.specs.Runs.{IsScheduled}
use Rattle.flow_report.specs.Text.{Told as Report, brief_text, report_text}
use Rattle.flow_report.specs.Of.{told_of}
use Rattle.flow_report.specs.States.{TellsOf}
use Rattle.flow_load.specs.Step.{Filled}
use Rattle.flow_load.specs.Offers.{AnyKind, Taped, Recorded, net_rules}
use Rattle.flow_load.specs.Components.{AreComponents}
use Rattle.flow_cli.specs.declared.ran.PrintedReport.{PrintedReport}
use Rattle.flow_load.specs.declared.stop.Stop.{Stop}
use Rattle.flow_load.specs.Runs.{ArePlayedOut, RunsTo, outputs_from, written_in, bytes_in}
use Rattle.flow_load.specs.Causes.{StopsAgain}

-- What is told of a run is the report of its last state.
pub record IsToldOf (plan : Network) (last : State AnyKind) (told : PrintedReport) : Type 0 where
  pub report : Report
  pub tells : TellsOf plan last report
  pub verdict : told.verdict ≡ report.verdict
  pub text : told.text.items ≡ report_text report
  pub brief : told.brief.items ≡ brief_text report

-- What is told is the report of the network.
pub record IsToldOfNet {K : Type 0} (plan : Network) (net : NetValue K) (told : PrintedReport) : Type 0 where
  pub verdict : told.verdict ≡ (told_of plan net).verdict
  pub report : told.text.items ≡ report_text (told_of plan net)
  pub brief : told.brief.items ≡ brief_text (told_of plan net)

-- The journal names the turns of the network in the order of their stamps and the numbers that they saw, and there are no more of them than a run may have.
pub record IsJournalOfNet {K : Type 0} (net : NetValue K) (journal : Journal) : Type 0 where
  pub turns : NamesTurns net journal.turns
  pub seen : NamesSeen net journal.seen
  pub few : length journal.turns ≤ RUN_LIMIT

-- The tape of process p of a net; an empty one where its component isn't the caller's own.
abbrev pub tape_by : List (BodyValue AnyKind) → ℕ → Taped
tape_by bodies p = unwrap_or (option_and_then (λ (b : BodyValue AnyKind). tape_in b.process.component) (slice_get bodies p)) []

-- The tape of process p has a file, unless it is a player's.
abbrev pub IsRecordedAt : List (BodyValue AnyKind) → ℕ → Type 0
IsRecordedAt bodies p = (b : BodyValue AnyKind) → slice_get bodies p ≡ Some b → IsRecordedIn b.process.component

-- These are the tapes of a net: one for each process of a kind of the caller's own, in the order of the processes. They have a file, unless they are players'.
pub record AreTapesOfNet (own : List KindSpec) (plan : Network) (net : NetValue AnyKind) (tapes : List Taped) : Type 0 where
  pub tapes_are : tapes ≡ map (tape_by net.bodies) (own_processes own plan)
  pub recorded : (p : ℕ) → p < length plan.processes → is_some (own_place own plan p) ≡ true → IsRecordedAt net.bodies p

-- The bytes that process p wrote.
abbrev pub bytes_at : List (BodyValue AnyKind) → ℕ → List ℕ
bytes_at bodies p = unwrap_or (option_and_then (λ (b : BodyValue AnyKind). written_in b.process.component) (slice_get bodies p)) []

-- The files of a net with their bytes, in the order of the processes.
abbrev pub net_outputs : Network → NetValue AnyKind → List Filled
net_outputs plan net = outputs_from (bytes_at net.bodies) 0 plan.processes

-- A run by so many workers, on what its readers were given, has left a net, a journal with tapes, and what is told of it. The journal is that of the run in which each component
-- of the caller's own is the player of its tape, which it has played to its end, and has a file, as the tapes have; the report is that of its last state, and each process wrote the same there.
pub record Leaves (own : List KindSpec) (workers : ℕ) (plan : Network) (given : List (List ℕ)) (net : NetValue AnyKind) (recorded : Recorded) (told : PrintedReport) : Type 0 where
  pub components : List AnyKind
  pub are_components : AreComponents own plan given recorded.tapes components
  pub last : State AnyKind
  pub run : RunsTo workers plan components recorded.journal last
  pub played_out : ArePlayedOut last
  pub told_is : IsToldOf plan last told
  pub wrote : (p : ℕ) → bytes_at net.bodies p ≡ bytes_in last p
  pub writable : IsWritable recorded.journal
  pub tapes_writable : IsTapesWritable recorded.tapes

-- The turns of the journal were made again from the start of the plan, and this is told of the state to which they lead.
pub record TellsAgain (plan : Network) (components : List AnyKind) (journal : Journal) (told : PrintedReport) : Type 0 where
  pub last : State AnyKind
  pub schedule : IsScheduled net_rules plan components (schedule_of journal) last
  pub told_is : IsToldOf plan last told

-- What making the turns of a journal again answers: what is told then, or the first of them that isn't defined.
abbrev pub MakesAgain : Network → List AnyKind → Journal → Result PrintedReport Stop → Type 0
MakesAgain plan components journal (Ok told) = TellsAgain plan components journal told
MakesAgain plan components journal (Err stop) = StopsAgain plan components journal stop
