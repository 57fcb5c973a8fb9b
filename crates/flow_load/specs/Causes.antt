-- Why a call stops: each cause, once.
use Rattle.std.specs.Prelude.{◌≡◌, ◌≢◌, ◌⊎◌, ℕ, List, [], ◌∷◌, ◌++◌, length, map, slice_get, Some, None, String, string_bytes, ⊤}
use Rattle.std.specs.declared.option.Option.{Option}
use Rattle.std.specs.declared.alloc.Global.{Global}
use Rattle.flow_limits.specs.declared.TheConstants.{FILE_LIMIT}
use Rattle.flow_text.specs.Edge.{Outside, Name, Logged}
use Rattle.flow_plan.specs.Network.{Network}
use Rattle.flow_words.specs.Words.{AskedRun, Replay, run_of, command_of}
use Rattle.flow_plan.specs.declared.plan.Process.{Process}
use Rattle.flow_tape.specs.Faults.{IsFault as IsTapesFault}
use Rattle.flow_tape.specs.Files.{IsWritable as IsTapesWritable}
use Rattle.flow_tape.specs.declared.TheConstants.{TAPE_FILE_LIMIT}
use Rattle.flow_offer.specs.Processes.{own_processes}
use Rattle.flow_offer.specs.Shares.{IsFirstWithout}
use Rattle.flow_parse.specs.declared.value.NetText.{NetText}
use Rattle.flow_model.specs.States.{State}
use Rattle.flow_model.specs.Plans.{start_of}
use Rattle.flow_journal.specs.Files.{IsWritable}
use Rattle.flow_journal.specs.Replays.{schedule_of, StopsAtTurn}
use Rattle.flow_journal.specs.declared.merge.Journal.{Journal}
use Rattle.flow_journal.specs.declared.refusal.Refusal.{Refusal as NoTurn}
use Rattle.flow_report.specs.Text.{Told as Report, report_text}
use Rattle.flow_report.specs.States.{TellsOf}
use Rattle.flow_load.specs.Step.{Filled, OnlyReads, FailsToRead, Unended, IsRead, GivesMore, HoldsMore, whole}
use Rattle.flow_load.specs.Many.{FailsAt, EndsAt}
use Rattle.flow_load.specs.Offers.{AnyKind, Offer, Recorded, Taped, IsNothing, net_rules, specs_of, parts_of}
use Rattle.flow_load.specs.Components.{AreComponents}
use Rattle.flow_load.specs.Networks.{RefusedFor}
use Rattle.flow_load.specs.Reads.{Asks, IsCommand, IsFile, IsJournalFile, AreTapes, IsReady, IsLimitedNext, IsNextFile, ShowsFault}
use Rattle.flow_load.specs.Runs.{ArePlayedOut, RunsTo, files_of_run}
use Rattle.flow_load.specs.declared.stop.NetRefusal.{NetRefusal}
use Rattle.flow_load.specs.declared.stop.JournalRefusal.{JournalRefusal}
use Rattle.flow_load.specs.declared.stop.JournalRefusal.TheVariants.{Byte, Turn}
use Rattle.flow_load.specs.declared.stop.TapesRefusal.{TapesRefusal}
use Rattle.flow_load.specs.declared.stop.TapesRefusal.TheVariants as tapes_refusals
use Rattle.flow_load.specs.declared.stop.Stop.{Stop}
use Rattle.flow_load.specs.declared.stop.Stop.TheVariants.{Words, Refused, NoPart, JournalRefused, TapesRefused, ReadFault, WriteFault, TooLong, NoMemory}

-- What stands of a call before it prints: its words, what its caller offers, the shelf before and after, and what is left of the turns that were made.
pub record Work : Type 0 where
  pub words : List (String Global)
  pub own : List Offer
  pub before : Outside
  pub after : Outside
  pub recorded : Recorded

-- The run that was asked for was made, on what its input files gave. This is its plan; these are its components, each of the caller's own replaced by the player of the tape that this
-- run recorded of it; this is the state to which the journal leads from there, in which each player has played its whole tape; and so stood the shelf when all was read. The journal has a
-- file, and so have the tapes.
pub record IsRunOf (w : Work) (asked : AskedRun) (plan : Network) (last : State AnyKind) (middle : Outside) : Type 0 where
  pub given : List (List ℕ)
  pub ready : IsReady (specs_of w.own) w.before middle asked.net [] plan given
  pub components : List AnyKind
  pub are_components : AreComponents (specs_of w.own) plan given w.recorded.tapes components
  pub run : RunsTo asked.workers plan components w.recorded.journal last
  pub played_out : ArePlayedOut last
  pub writable : IsWritable w.recorded.journal
  pub tapes_writable : IsTapesWritable w.recorded.tapes

-- No turn was made, and no file was created.
pub record IsUntouched (w : Work) : Type 0 where
  pub nothing : IsNothing w.recorded
  pub files : w.after.files ≡ w.before.files
  pub created : w.after.created ≡ w.before.created

-- The words are no command line. Nothing was asked of the shelf.
pub record IsNoCommand (w : Work) : Type 0 where
  pub none : command_of (map string_bytes w.words) ≡ None
  pub shelf : w.after ≡ w.before
  pub nothing : IsNothing w.recorded

-- The network file was read whole, and nothing but it; and it is refused for this.
pub record IsRefused (w : Work) (refusal : NetRefusal) : Type 0 where
  pub name : Name
  pub command : IsCommand w.words name
  pub net : List ℕ
  pub read : IsRead w.before.files FILE_LIMIT (name, net)
  pub refused : RefusedFor (specs_of w.own) net refusal
  pub shelf : OnlyReads w.before w.after (whole (name, net) ∷ [])
  pub nothing : IsNothing w.recorded

-- The network file was read whole, and then that of the journal as far as its fault shows; the byte at this place can't stand in a journal's file, or the file ends
-- there too early.
pub record IsFaulty (w : Work) (place : ℕ) : Type 0 where
  pub name : Name
  pub kept : Name
  pub tapes : Option Name
  pub asks : Asks w.words (Replay name kept tapes)
  pub net : List ℕ
  pub text : NetText
  pub plan : Network
  pub file : IsFile (specs_of w.own) w.before.files name net text plan
  pub given : Logged
  pub shows : ShowsFault w.before.files kept given place
  pub shelf : OnlyReads w.before w.after (whole (name, net) ∷ given ∷ [])
  pub nothing : IsNothing w.recorded

-- All that a replay reads was read, and the journal of the file, which is the one that it is the file of, is no schedule from the start of the network: this is the
-- first of its turns that isn't defined, and why.
pub record IsNoSchedule (w : Work) (place process : ℕ) (refusal : NoTurn) : Type 0 where
  pub name : Name
  pub kept : Name
  pub tapes : Option Name
  pub asks : Asks w.words (Replay name kept tapes)
  pub bytes : List ℕ
  pub tells : Journal
  pub is_journal : IsJournalFile w.before.files kept bytes tells
  pub files : List Filled
  pub told_tapes : List Taped
  pub are_tapes : AreTapes w.before.files tapes files told_tapes
  pub plan : Network
  pub given : List (List ℕ)
  pub ready : IsReady (specs_of w.own) w.before w.after name ((kept, bytes) ∷ files) plan given
  pub components : List AnyKind
  pub are_components : AreComponents (specs_of w.own) plan given told_tapes components
  pub stops : StopsAtTurn net_rules (start_of plan components) (schedule_of tells) place process refusal
  pub nothing : IsNothing w.recorded

-- Why the turns of a journal couldn't be made again from the start of a plan: this is the first of them that isn't defined; or memory was wanting.
abbrev pub StopsAgain : Network → List AnyKind → Journal → Stop → Type 0
StopsAgain plan components journal (JournalRefused (Turn place p refusal)) = StopsAtTurn net_rules (start_of plan components) (schedule_of journal) place p refusal
StopsAgain plan components journal NoMemory = ⊤
StopsAgain plan components journal other = ⊥

-- The journal's file is refused for this.
abbrev pub IsJournalRefused : Work → JournalRefusal → Type 0
IsJournalRefused w (Byte place) = IsFaulty w place
IsJournalRefused w (Turn place process refusal) = IsNoSchedule w place process refusal

-- A run was asked for, and this process of its network is the first that finds no part of its kind, which is the caller's own: those before it take them all. The network file was read whole, and
-- nothing but it.
pub record IsPartless (w : Work) (process : List ℕ) : Type 0 where
  pub asked : AskedRun
  pub asks : Asks w.words (run_of asked)
  pub net : List ℕ
  pub text : NetText
  pub plan : Network
  pub file : IsFile (specs_of w.own) w.before.files asked.net net text plan
  pub place : ℕ
  pub there : Process
  pub is_there : slice_get plan.processes place ≡ Some there
  pub named : process ≡ there.name
  pub finds : IsFirstWithout (specs_of w.own) (parts_of w.own) plan place
  pub shelf : OnlyReads w.before w.after (whole (asked.net, net) ∷ [])
  pub nothing : IsNothing w.recorded

-- The network file, that of the journal and that of the tapes were read whole, and nothing else; the byte at this place can't stand in a file of tapes, or the file ends there too early.
pub record IsTapesFaulty (w : Work) (place : ℕ) : Type 0 where
  pub name : Name
  pub kept : Name
  pub named : Name
  pub asks : Asks w.words (Replay name kept (Some named))
  pub net : List ℕ
  pub text : NetText
  pub plan : Network
  pub file : IsFile (specs_of w.own) w.before.files name net text plan
  pub bytes : List ℕ
  pub tells : Journal
  pub is_journal : IsJournalFile w.before.files kept bytes tells
  pub tape_bytes : List ℕ
  pub read : IsRead w.before.files TAPE_FILE_LIMIT (named, tape_bytes)
  pub fault : IsTapesFault tape_bytes place
  pub shelf : OnlyReads w.before w.after (map whole ((name, net) ∷ (kept, bytes) ∷ (named, tape_bytes) ∷ []))
  pub nothing : IsNothing w.recorded

-- The network file, that of the journal and that of the tapes, where one is named, were read whole, and nothing else; and there are this many tapes, which isn't how many processes are of
-- kinds of the caller's own.
pub record IsMiscounted (w : Work) (count : ℕ) : Type 0 where
  pub name : Name
  pub kept : Name
  pub tapes : Option Name
  pub asks : Asks w.words (Replay name kept tapes)
  pub net : List ℕ
  pub text : NetText
  pub plan : Network
  pub file : IsFile (specs_of w.own) w.before.files name net text plan
  pub bytes : List ℕ
  pub tells : Journal
  pub is_journal : IsJournalFile w.before.files kept bytes tells
  pub files : List Filled
  pub told_tapes : List Taped
  pub are_tapes : AreTapes w.before.files tapes files told_tapes
  pub count_is : count ≡ length told_tapes
  pub differs : length told_tapes ≢ length (own_processes (specs_of w.own) plan)
  pub shelf : OnlyReads w.before w.after (map whole ((name, net) ∷ (kept, bytes) ∷ files))
  pub nothing : IsNothing w.recorded

-- The tapes are refused for this.
abbrev pub AreTapesRefused : Work → TapesRefusal → Type 0
AreTapesRefused w (tapes_refusals.Byte place) = IsTapesFaulty w place
AreTapesRefused w (tapes_refusals.Count count) = IsMiscounted w count

-- A read of this file failed: it couldn't be opened, or it gave an error before its end. Each file before it was read whole, and none behind it.
pub record IsReadFault (w : Work) (read : Name) : Type 0 where
  pub name : Name
  pub command : IsCommand w.words name
  pub earlier : List Filled
  pub next : IsNextFile (specs_of w.own) w.words w.before.files name earlier read
  pub opened : List Logged
  pub unended : Unended read opened
  pub shelf : FailsToRead w.before w.after (map whole earlier ++ opened) read
  pub nothing : IsNothing w.recorded

-- This file, the network file, that of the tapes, or one of a reader, gave one byte more than it may have. Each file before it was read whole, and none behind it.
pub record IsTooLong (w : Work) (read : Name) : Type 0 where
  pub name : Name
  pub command : IsCommand w.words name
  pub earlier : List Filled
  pub limit : ℕ
  pub next : IsLimitedNext (specs_of w.own) w.words w.before.files name earlier limit read
  pub more : HoldsMore w.before.files limit read
  pub shelf : GivesMore w.before w.after (map whole earlier) limit read
  pub nothing : IsNothing w.recorded

-- A run was made, and writing one of its files failed: this one. Those before it were written whole.
pub record IsWriteFault (w : Work) (written : Name) : Type 0 where
  pub asked : AskedRun
  pub asks : Asks w.words (run_of asked)
  pub plan : Network
  pub last : State AnyKind
  pub middle : Outside
  pub run : IsRunOf w asked plan last middle
  pub report : Report
  pub tells : TellsOf plan last report
  pub fails : FailsAt middle w.after (files_of_run plan last asked w.recorded (report_text report)) written

-- A run was made, and memory was wanting before its last file was begun. Those that were begun were written whole.
pub record IsCutOff (w : Work) : Type 0 where
  pub asked : AskedRun
  pub asks : Asks w.words (run_of asked)
  pub plan : Network
  pub last : State AnyKind
  pub middle : Outside
  pub run : IsRunOf w asked plan last middle
  pub report : Report
  pub tells : TellsOf plan last report
  pub ends : EndsAt middle w.after (files_of_run plan last asked w.recorded (report_text report))

-- Each stop has its cause. That of want of memory says only what stands: all files of a run stand only behind its report.
abbrev pub HasCause : Work → Stop → Type 0
HasCause w Words = IsNoCommand w
HasCause w (Refused refusal) = IsRefused w refusal
HasCause w (NoPart process) = IsPartless w process
HasCause w (JournalRefused refusal) = IsJournalRefused w refusal
HasCause w (TapesRefused refusal) = AreTapesRefused w refusal
HasCause w (ReadFault read) = IsReadFault w (string_bytes read)
HasCause w (TooLong read) = IsTooLong w (string_bytes read)
HasCause w (WriteFault written) = IsWriteFault w (string_bytes written)
HasCause w NoMemory = IsUntouched w ⊎ IsCutOff w ⊎ ((written : Name) × IsWriteFault w written)
