-- What the top call does.
use Rattle.std.specs.Prelude.{◌≡◌, ◌⊎◌, ℕ, Bool, true, false, List, [], ◌∷◌, ◌++◌, Some, None, Ok, Err, String, codes, ⊤}
use Rattle.std.specs.List.{flat_map}
use Rattle.std.specs.declared.alloc.Global.{Global}
use Rattle.std.specs.declared.option.Option.{Option}
use Rattle.std.specs.declared.result.Result.{Result}
use Rattle.flow_text.specs.Edge.{Outside, Name, Rose}
use Rattle.flow_plan.specs.Network.{Network}
use Rattle.flow_words.specs.Words.{AskedReport, AskedRun, report_by, run_of, Check, Judge, Replay, Make, Page}
use Rattle.flow_plan.specs.declared.kind.KindSpec.{KindSpec}
use Rattle.flow_parse.specs.declared.value.NetText.{NetText}
use Rattle.flow_parse.specs.Canonical.{canonical}
use Rattle.flow_model.specs.States.{State}
use Rattle.flow_determinate.specs.Standard.{IsDeterminate}
use Rattle.flow_runner.specs.Crews.{HasWorkers}
use Rattle.flow_kinds.specs.Page.{kinds_page, own_lines}
use Rattle.flow_words.specs.Pages.{help_lines, version_lines, text_of as text_of_lines}
use Rattle.flow_words.specs.declared.asked.Page.{Page as PageName}
use Rattle.flow_words.specs.declared.asked.Page.TheVariants as pages
use Rattle.flow_journal.specs.Replays.{schedule_of}
use Rattle.flow_journal.specs.Runs.{IsScheduled}
use Rattle.flow_report.specs.Text.{Told as Report, report_text}
use Rattle.flow_report.specs.States.{TellsOf}
use Rattle.flow_cli.specs.Live.{AnyNet}
use Rattle.flow_load.specs.Step.{Filled, OnlyReads, whole}
use Rattle.flow_load.specs.Offers.{AnyKind, Offer, Recorded, IsNothing, net_rules, specs_of}
use Rattle.flow_load.specs.Components.{AreComponents}
use Rattle.flow_offer.specs.Processes.{IsOfferedPlan}
use Rattle.flow_load.specs.Many.{WritesAll, WritesFiles}
use Rattle.flow_cli.specs.After.{Outputs, Prints, after_print, printed_by, printed_text, remarked_by, remarked_text, verdict_status}
use Rattle.flow_cli.specs.Leaves.{Leaves, TellsAgain, MakesAgain, net_outputs}
use Rattle.flow_load.specs.Runs.{bytes_in, files_of_run, kept_files, report_file}
use Rattle.flow_load.specs.Reads.{Asks, IsFile, IsJournalFile, AreTapes, IsReady}
use Rattle.flow_load.specs.Prepare.{so_far}
use Rattle.flow_load.specs.Statuses.{IsOver}
use Rattle.flow_load.specs.Stops.{status_of, text_of}
use Rattle.flow_load.specs.Causes.{Work, IsRunOf, HasCause}
use Rattle.flow_cli.specs.Makes.{make_text, IsRunOfMade}
use Rattle.flow_cli.specs.Workers.{IsMadeBy, IsMadeAsAsked, IsMadeByNobody}
use Rattle.flow_cli.specs.declared.ran.PrintedReport.{PrintedReport}
use Rattle.flow_cli.specs.declared.ran.Ran.{Ran}
use Rattle.flow_cli.specs.declared.run.KeptFile.{KeptFile}
use Rattle.flow_cli.specs.declared.run.Said.{Said}
use Rattle.flow_cli.specs.declared.run.Unwritten.{Unwritten}
use Rattle.flow_cli.specs.declared.run.Done.{Done}
use Rattle.flow_cli.specs.declared.run.Done.TheVariants as dones
use Rattle.flow_cli.specs.declared.top.Outcome.{Outcome}
use Rattle.flow_load.specs.declared.status.Status.{Status}
use Rattle.flow_load.specs.declared.status.Status.TheVariants.{Finished}
use Rattle.flow_load.specs.declared.stop.Stop.{Stop}
use Rattle.flow_load.specs.declared.stop.Stop.TheVariants.{NoMemory}
use Rattle.flow_load.specs.Valid.{IsValid}

-- The run that was asked for was made, and all its files were written whole: those of its writers, in the order of the processes, and then that of its journal, that of its tapes and that of its
-- report, where they were named; and nothing else. This report tells of its last state.
pub record IsWhole (w : Work) (asked : AskedRun) (report : Report) : Type 0 where
  pub plan : Network
  pub last : State AnyKind
  pub middle : Outside
  pub run : IsRunOf w asked plan last middle
  pub writes : WritesAll middle w.after (files_of_run plan last asked w.recorded (report_text report))
  pub tells : TellsOf plan last report

-- The network file was read whole, and nothing else was done; it holds this value, which has a plan.
pub record IsChecked (w : Work) (name : Name) (text : NetText) : Type 0 where
  pub net : List ℕ
  pub plan : Network
  pub file : IsFile (specs_of w.own) w.before.files name net text plan
  pub shelf : OnlyReads w.before w.after (whole (name, net) ∷ [])
  pub nothing : IsNothing w.recorded

-- The journal of this file is a schedule of the network of that one, on what its input files gave, each component of the caller's own the player of its tape of the file of tapes: after each
-- of its prefixes each packet is in one place and each connection is in order. All files were read whole, and nothing else was done. This report tells of the state to which the journal leads,
-- which needn't be quiet.
pub record IsReplayed (w : Work) (name kept : Name) (tapes : Option Name) (report : Report) : Type 0 where
  pub bytes : List ℕ
  pub is_journal : IsJournalFile w.before.files kept bytes w.recorded.journal
  pub files : List Filled
  pub are_tapes : AreTapes w.before.files tapes files w.recorded.tapes
  pub plan : Network
  pub given : List (List ℕ)
  pub ready : IsReady (specs_of w.own) w.before w.after name ((kept, bytes) ∷ files) plan given
  pub components : List AnyKind
  pub are_components : AreComponents (specs_of w.own) plan given w.recorded.tapes components
  pub last : State AnyKind
  pub schedule : IsScheduled net_rules plan components (schedule_of w.recorded.journal) last
  pub tells : TellsOf plan last report

-- A check says the canonical spelling of what its network file holds.
pub record SaysSpelling (w : Work) (text : List ℕ) (status : Status) : Type 0 where
  pub name : Name
  pub asks : Asks w.words (Check name)
  pub value : NetText
  pub checked : IsChecked w name value
  pub text_is : text ≡ canonical value
  pub status_is : status ≡ Finished

-- A replay says the report of the state to which its journal leads, and its verdict is the status.
pub record SaysAgain (w : Work) (text : List ℕ) (status : Status) : Type 0 where
  pub name : Name
  pub kept : Name
  pub tapes : Option Name
  pub asks : Asks w.words (Replay name kept tapes)
  pub report : Report
  pub replayed : IsReplayed w name kept tapes report
  pub text_is : text ≡ report_text report
  pub status_is : status ≡ verdict_status report.verdict

-- A make says the report of its run, between a line on its input and lines on its writers' files, and its verdict is the status. Nothing was asked of the shelf.
pub record SaysMade (w : Work) (text : List ℕ) (status : Status) : Type 0 where
  pub number : ℕ
  pub workers : ℕ
  pub asks : Asks w.words (Make number workers)
  pub report : Report
  pub plan : Network
  pub last : State AnyKind
  pub run : IsRunOfMade number workers plan w.recorded.journal last
  pub tapes : w.recorded.tapes ≡ []
  pub shelf : w.after ≡ w.before
  pub tells : TellsOf plan last report
  pub text_is : text ≡ make_text number (report_text report) (bytes_in last) plan
  pub status_is : status ≡ verdict_status report.verdict

-- The line of an answer.
abbrev pub answer : Bool → List ℕ
answer true = codes "determinate yes\n"
answer false = codes "determinate no\n"

-- The text says whether the plan is determinate: yes where it is, and no where it isn't.
abbrev pub TellsWhether : Network → List ℕ → Type 0
TellsWhether plan text = (IsDeterminate plan × (text ≡ answer true)) ⊎ ((IsDeterminate plan → ⊥) × (text ≡ answer false))

-- A judge says whether the plan of its network file is determinate.
pub record SaysJudged (w : Work) (text : List ℕ) (status : Status) : Type 0 where
  pub name : Name
  pub asks : Asks w.words (Judge name)
  pub value : NetText
  pub checked : IsChecked w name value
  pub text_is : TellsWhether checked.plan text
  pub status_is : status ≡ Finished

-- The text of a page where the caller has these kinds of its own: the standard kinds of the table and then those, in their order; the help; or the version.
abbrev pub page_text : List KindSpec → PageName → List ℕ
page_text own pages.Kinds = kinds_page ++ flat_map own_lines own
page_text own pages.Help = text_of_lines help_lines
page_text own pages.Version = text_of_lines version_lines

-- A page is said. No turn was made, and nothing was asked of the shelf.
pub record SaysPage (w : Work) (text : List ℕ) (status : Status) : Type 0 where
  pub page : PageName
  pub asks : Asks w.words (Page page)
  pub shelf : w.after ≡ w.before
  pub nothing : IsNothing w.recorded
  pub text_is : text ≡ page_text (specs_of w.own) page
  pub status_is : status ≡ Finished

-- What a call says that writes no file, and with which status: a check, a replay, a make, a judge or a page.
abbrev pub Says : Work → List ℕ → Status → Type 0
Says w text status =
    SaysSpelling w text status ⊎ SaysAgain w text status ⊎ SaysMade w text status ⊎ SaysJudged w text status ⊎ SaysPage w text status

-- A file that a run keeps for a replay as the code holds it, where it was named.
abbrev pub kept_file : Option KeptFile → List Filled
kept_file None = []
kept_file (Some kept) = (kept.name.now, kept.bytes.items) ∷ []

-- The files of a run as the code holds them: those of its writers, in the order of the processes, and then that of its journal, that of its tapes and that of its report, where they were named.
abbrev pub outputs_of_run : Unwritten AnyNet → List Filled
outputs_of_run run = (net_outputs run.ran.plan run.ran.net ++ (kept_file run.journal ++ kept_file run.tapes)) ++ report_file (report_by run.telling).file run.ran.report.text.items

-- What is left of the turns of a run, as the code holds it.
abbrev pub recorded_by : Ran AnyNet → Recorded
recorded_by ran = record { journal = ran.journal; tapes = ran.tapes.items }

-- The same of what a call says, and of its outcome.
abbrev pub recorded_in : Said → Recorded
recorded_in said = record { journal = said.journal; tapes = said.tapes.items }

-- The same of the outcome of a call.
abbrev pub recorded_of : Outcome → Recorded
recorded_of outcome = record { journal = outcome.journal; tapes = outcome.tapes.items }

-- A network has run, on what was read, and nothing is written yet.
pub record HasRun (own : List KindSpec) (old new : Outside) (words : List (String Global)) (run : Unwritten AnyNet) : Type 0 where
  pub asked : AskedRun
  pub asks : Asks words (run_of asked)
  pub given : List (List ℕ)
  pub ready : IsReady own old new asked.net [] run.ran.plan given
  pub leaves : Leaves own asked.workers run.ran.plan given run.ran.net (recorded_by run.ran) run.ran.report
  pub made : IsMadeBy asked.workers run.ran.crew run.ran.journal
  pub kept : kept_file run.journal ++ kept_file run.tapes ≡ kept_files asked (recorded_by run.ran)
  pub telling : report_by run.telling ≡ asked.report

-- What is said of the turns of a journal that were made again, or why they couldn't be made.
abbrev pub SaysTurnsAgain : Network → List AnyKind → Recorded → Result Said Stop → Type 0
SaysTurnsAgain plan components recorded (Ok said) = (told : PrintedReport) × TellsAgain plan components recorded.journal told
    × (said.text.items ≡ told.text.items) × (said.status ≡ verdict_status told.verdict) × (recorded_in said ≡ recorded) × HasWorkers 0 said.crew
SaysTurnsAgain plan components recorded (Err stop) = MakesAgain plan components recorded.journal (Err stop)

-- What a call does before something is written or printed.
abbrev pub Performs : List Offer → Outside → Outside → List (String Global) → Result (Done AnyNet) Stop → Type 0
Performs own old new words (Ok (dones.Ran run)) = HasRun (specs_of own) old new words run
Performs own old new words (Ok (dones.Said said)) = Says (so_far words own old new (recorded_in said)) said.text.items said.status
    × IsMadeAsAsked words said.crew said.journal
Performs own old new words (Err stop) = (recorded : Recorded) → IsNothing recorded → HasCause (so_far words own old new recorded) stop

-- The text of the stop was printed, or, where there was no memory for it, that of want of memory.
abbrev pub PrintsStop : Outputs → Outputs → Stop → Status → Type 0
PrintsStop old new stop status = Prints old new (text_of stop) [] (status_of stop) status ⊎ Prints old new (text_of NoMemory) [] (status_of NoMemory) status

-- The report is told as it was asked for.
abbrev pub PrintsReport : Outputs → Outputs → AskedReport → PrintedReport → Status → Type 0
PrintsReport old new asked report status =
    Prints old new (printed_by asked report.verdict report.text.items report.brief.items) (remarked_by asked report.verdict report.text.items report.brief.items) (verdict_status report.verdict) status

-- What is printed once the files of a run are written, or writing them stopped.
abbrev pub PrintsWritten : Outputs → Outputs → AskedReport → PrintedReport → Result (Unit {0}) Stop → Status → Type 0
PrintsWritten old new asked report (Ok done) status = PrintsReport old new asked report status
PrintsWritten old new asked report (Err stop) status = PrintsStop old new stop status

-- The files of a run were written and then its report was printed, or writing them stopped and the text of that was.
abbrev pub Finishes : Outside → Outside → Outputs → Outputs → Unwritten AnyNet → Status → Type 0
Finishes shelf shelf_after out out_after run status =
    (WritesAll shelf shelf_after (outputs_of_run run) × PrintsReport out out_after (report_by run.telling) run.ran.report status)
    ⊎ ((stop : Stop) × WritesFiles {T = Unit {0}} shelf shelf_after (Err stop) (outputs_of_run run) × PrintsStop out out_after stop status)

-- What has run is a network of a plan over the standard kinds and these of the caller's own.
abbrev pub IsRunnable : List KindSpec → Done AnyNet → Type 0
IsRunnable own (dones.Ran run) = IsOfferedPlan own run.ran.plan
IsRunnable own (dones.Said said) = ⊤

-- What is done of what there is to write and to print.
abbrev pub Concludes : Outside → Outside → Outputs → Outputs → Done AnyNet → Outcome → Type 0
Concludes shelf shelf_after out out_after (dones.Ran run) outcome = Finishes shelf shelf_after out out_after run outcome.status × (recorded_of outcome ≡ recorded_by run.ran)
    × (outcome.crew ≡ run.ran.crew)
Concludes shelf shelf_after out out_after (dones.Said said) outcome = (shelf_after ≡ shelf) × Prints out out_after said.text.items [] said.status outcome.status × (recorded_of outcome ≡ recorded_in said)
    × (outcome.crew ≡ said.crew)

-- What stands of a call: its work, its outputs before and after, and its status.
pub record Call : Type 0 where
  pub work : Work
  pub out : Outputs
  pub out_after : Outputs
  pub status : Status

-- A call of the top: its words, what its caller offers, the shelf before and after, the outputs before and after, what is left of the turns that were made, the status.
abbrev pub call_of : List (String Global) → List Offer → Outside → Outside → Outputs → Outputs → Recorded → Status → Call
call_of words own shelf shelf_after out out_after recorded status = record {
  work = so_far words own shelf shelf_after recorded;
  out = out;
  out_after = out_after;
  status = status;
}

-- A run was made, and its report was told as it was asked for; or a first part of that, and an output failed.
pub record TellsRun (c : Call) : Type 0 where
  pub asked : AskedRun
  pub asks : Asks c.work.words (run_of asked)
  pub report : Report
  pub whole : IsWhole c.work asked report
  pub prints : Prints c.out c.out_after (printed_text asked.report report) (remarked_text asked.report report) (verdict_status report.verdict) c.status

-- What a call says that writes no file was printed; or a first part of that, and the output failed.
pub record TellsSaid (c : Call) : Type 0 where
  pub text : List ℕ
  pub own : Status
  pub says : Says c.work text own
  pub prints : Prints c.out c.out_after text [] own c.status

-- The call stopped for this cause, and the text of that was printed; or a first part of that, and the output failed.
pub record TellsStop (c : Call) : Type 0 where
  pub stop : Stop
  pub cause : HasCause c.work stop
  pub prints : Prints c.out c.out_after (text_of stop) [] (status_of stop) c.status

-- Whatever its status is, a call has run a network, or done what writes no file, or stopped for a cause; and has told what came of it.
abbrev pub IsCaused : Call → Type 0
IsCaused c = TellsRun c ⊎ TellsSaid c ⊎ TellsStop c

-- The turns of the outcome's journal were made by its crew, which are as many workers as the words ask for; or the call was stopped before any was made.
abbrev pub IsManned : List (String Global) → Outcome → Type 0
IsManned words outcome = IsMadeAsAsked words outcome.crew outcome.journal ⊎ (IsMadeByNobody outcome.crew outcome.journal × (IsOver outcome.status → ⊥))

-- The headline. The network of the file that was asked for was run by so many workers as were asked for: its plan is a valid one over the standard kinds and those of the caller's own; the journal
-- of the outcome is a schedule of the machine from the plan's start, where each component of the caller's own is the player of the tape that this run recorded of it; after each of the journal's prefixes
-- each packet is in one place and each connection is in order, and no process can go on after the whole of it; where there were no workers, it is the round robin of one thread. The network file and the
-- readers' files were read whole, in order, and nothing else; then the files of the state to which the journal leads were written whole, in order, and then the journal's own, that of the tapes and that of
-- the report, where they were named, and nothing else. Exactly what was asked for of the report of that state was printed, and the status is its verdict.
pub record EndsWell (c : Call) (asked : AskedRun) : Type 0 where
  pub report : Report
  pub whole : IsWhole c.work asked report
  pub printed : c.out_after ≡ after_print c.out (printed_text asked.report report) (remarked_text asked.report report)
  pub status : c.status ≡ verdict_status report.verdict

-- Exactly what a call says that writes no file was printed, with its status.
pub record SaysWell (c : Call) : Type 0 where
  pub text : List ℕ
  pub says : Says c.work text c.status
  pub printed : c.out_after ≡ after_print c.out text []

-- A call that came to its end: a run did, or what writes no file.
abbrev pub ComesToEnd : Call → Type 0
ComesToEnd c = ((asked : AskedRun) × Asks c.work.words (run_of asked) × EndsWell c asked) ⊎ SaysWell c

-- No count of faults rose.
pub record NoFaults (c : Call) : Type 0 where
  pub reads : Rose c.work.before.read_faults c.work.after.read_faults → ⊥
  pub writes : Rose c.work.before.write_faults c.work.after.write_faults → ⊥
  pub prints : Rose c.out.out.write_faults c.out_after.out.write_faults → ⊥
  pub remarks : Rose c.out.err.write_faults c.out_after.err.write_faults → ⊥

-- Where no count of faults rose and all that was read is valid, a call comes to its end, or memory was wanting.
abbrev pub IsComplete : Call → Type 0
IsComplete c = NoFaults c → IsValid c.work → IsOver c.status ⊎ (c.status ≡ status_of NoMemory)
