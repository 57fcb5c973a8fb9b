-- What a call does before its network runs: the words, the network file, a journal's file, the input files.
use Rattle.std.specs.Prelude.{◌≡◌, ◌≢◌, ◌≤◌, ℕ, List, [], ◌∷◌, length, map, Some, Ok, Err, Vec, String, string_bytes, ⊤}
use Rattle.std.specs.declared.option.Option.{Option}
use Rattle.std.specs.declared.alloc.Global.{Global}
use Rattle.std.specs.declared.result.Result.{Result}
use Rattle.flow_limits.specs.declared.TheConstants.{NUMBER_LIMIT, WORKER_LIMIT}
use Rattle.flow_text.specs.Edge.{Outside, Name, Logged}
use Rattle.flow_plan.specs.Network.{Network}
use Rattle.flow_words.specs.Words.{AskedRun, run_of, run_by, Check, Judge, Replay, Make, Page}
use Rattle.flow_parse.specs.declared.value.NetText.{NetText}
use Rattle.flow_journal.specs.declared.merge.Journal.{Journal}
use Rattle.flow_plan.specs.declared.kind.KindSpec.{KindSpec}
use Rattle.flow_own.specs.Parts.{Seen}
use Rattle.flow_tape.specs.Faults.{IsFault as IsTapesFault}
use Rattle.flow_tape.specs.declared.TheConstants.{TAPE_FILE_LIMIT}
use Rattle.flow_load.specs.Step.{Filled, OnlyReads, FailsToRead, MayRead, Unended, IsRead, GivesMore, HoldsMore, whole}
use Rattle.flow_load.specs.Offers.{AnyKind, Offer, Recorded, Taped, IsNothing, specs_of}
use Rattle.flow_load.specs.Components.{AreComponents, AreLive, HoldTheirParts}
use Rattle.flow_load.specs.Reads.{Asks, IsCommand, IsFile, IsJournalFile, IsReady, AreTapes, ShowsFault}
use Rattle.flow_load.specs.Causes.{Work, HasCause}
use Rattle.flow_load.specs.declared.net_file.NetFile.{NetFile}
use Rattle.flow_load.specs.declared.before.Job.{Job}
use Rattle.flow_load.specs.declared.before.Again.{Again}
use Rattle.flow_load.specs.declared.before.Task.{Task}
use Rattle.flow_load.specs.declared.before.Task.TheVariants as tasks
use Rattle.flow_load.specs.declared.stop.JournalRefusal.TheVariants.{Byte}
use Rattle.flow_load.specs.declared.stop.TapesRefusal.TheVariants as faults
use Rattle.flow_load.specs.declared.stop.Stop.{Stop}
use Rattle.flow_load.specs.declared.stop.Stop.TheVariants.{JournalRefused, TapesRefused, NoMemory, ReadFault, TooLong}

-- A call with these words that has made no turn yet, up to some step.
abbrev pub so_far : List (String Global) → List Offer → Outside → Outside → Recorded → Work
so_far words own old new recorded = record { words = words; own = own; before = old; after = new; recorded = recorded }

-- The stop has its cause in every call on this network file that does no more, and whose caller has these kinds of its own.
abbrev pub StopsCommand : List KindSpec → Outside → Outside → Name → Stop → Type 0
StopsCommand kinds old new name stop = (words : List (String Global)) (own : List Offer) (recorded : Recorded) → specs_of own ≡ kinds → IsCommand words name → IsNothing recorded
    → HasCause (so_far words own old new recorded) stop

-- What reading the network file does to the shelf.
abbrev pub Loads : List KindSpec → Outside → Outside → Name → Result NetFile Stop → Type 0
Loads kinds old new name (Ok file) = (net : List ℕ) × OnlyReads old new (whole (name, net) ∷ []) × IsFile kinds old.files name net file.text file.plan
Loads kinds old new name (Err stop) = StopsCommand kinds old new name stop

-- What reading a journal's file does to the shelf. It is never too long: its header tells how long it is.
abbrev pub ReadsJournal : Outside → Outside → Name → Result Journal Stop → Type 0
ReadsJournal old new name (Ok journal) = (bytes : List ℕ) × OnlyReads old new (whole (name, bytes) ∷ []) × IsJournalFile old.files name bytes journal
ReadsJournal old new name (Err (JournalRefused (Byte place))) = (given : Logged) × OnlyReads old new (given ∷ []) × ShowsFault old.files name given place
ReadsJournal old new name (Err (ReadFault read)) = (string_bytes read ≡ name) × ((files : List Logged) × Unended name files × FailsToRead old new files name)
ReadsJournal old new name (Err NoMemory) = MayRead old new
ReadsJournal old new name (Err other) = ⊥

-- What reading the file of tapes that a replay names does to the shelf, where it names one and so many tapes are wanted. Where there are others, all of the file was read, and it has no fault.
abbrev pub ReadsTapes : ℕ → Outside → Outside → Option Name → Result (Vec Taped Global) Stop → Type 0
ReadsTapes wanted old new tapes (Ok read) = (files : List Filled) × OnlyReads old new (map whole files) × AreTapes old.files tapes files read.items × (length read.items ≡ wanted)
ReadsTapes wanted old new tapes (Err (TapesRefused (faults.Count count))) = (files : List Filled) × (told : List Taped) × OnlyReads old new (map whole files) × AreTapes old.files tapes files told × (count ≡ length told) × (count ≢ wanted)
ReadsTapes wanted old new (Some name) (Err (TapesRefused (faults.Byte place))) = (bytes : List ℕ) × OnlyReads old new (whole (name, bytes) ∷ []) × IsRead old.files TAPE_FILE_LIMIT (name, bytes) × IsTapesFault bytes place
ReadsTapes wanted old new (Some name) (Err (ReadFault read)) = (string_bytes read ≡ name) × ((files : List Logged) × Unended name files × FailsToRead old new files name)
ReadsTapes wanted old new (Some name) (Err (TooLong read)) = (string_bytes read ≡ name) × GivesMore old new [] TAPE_FILE_LIMIT name × HoldsMore old.files TAPE_FILE_LIMIT name
ReadsTapes wanted old new tapes (Err NoMemory) = MayRead old new
ReadsTapes wanted old new tapes (Err other) = ⊥

-- The network that was read can run: each of its readers was given what its file holds, and these are its components, each of the caller's own a live part.
pub record IsReadyToRun (own : List KindSpec) (old new : Outside) (name : Name) (job : Job AnyKind) : Type 0 where
  pub given : List (List ℕ)
  pub ready : IsReady own old new name [] job.plan given
  pub live : AreLive own job.plan given job.components.items

-- What reading the network file of a run and then the files of its readers does to the shelf.
abbrev pub ReadsRun : List Offer → Outside → Outside → AskedRun → Result (Job AnyKind) Stop → Type 0
ReadsRun own old new asked (Ok job) = IsReadyToRun (specs_of own) old new asked.net job
ReadsRun own old new asked (Err stop) = (words : List (String Global)) (recorded : Recorded) → Asks words (run_of asked) → IsNothing recorded → HasCause (so_far words own old new recorded) stop

-- All that a replay reads was read: the file `kept` is that of this journal, these are its tapes, and these are the components of the network, each of the caller's own the
-- player of its tape.
pub record IsReadyAgain (own : List KindSpec) (old new : Outside) (name kept : Name) (tapes : Option Name) (again : Again) : Type 0 where
  pub bytes : List ℕ
  pub is_journal : IsJournalFile old.files kept bytes again.journal
  pub files : List Filled
  pub are_tapes : AreTapes old.files tapes files again.tapes.items
  pub given : List (List ℕ)
  pub ready : IsReady own old new name ((kept, bytes) ∷ files) again.job.plan given
  pub are_components : AreComponents own again.job.plan given again.tapes.items again.job.components.items

-- What reading the network file, then a journal's file and that of its tapes, and then the files of the readers does to the shelf.
abbrev pub ReadsAgain : List KindSpec → Outside → Outside → Name → Name → Option Name → Result Again Stop → Type 0
ReadsAgain kinds old new name kept tapes (Ok again) = IsReadyAgain kinds old new name kept tapes again
ReadsAgain kinds old new name kept tapes (Err stop) = (words : List (String Global)) (own : List Offer) (recorded : Recorded) → specs_of own ≡ kinds → Asks words (Replay name kept tapes)
    → IsNothing recorded → HasCause (so_far words own old new recorded) stop

-- This run is asked for, and the network can run.
pub record AsksRun (own : List KindSpec) (old new : Outside) (words : List (String Global)) (job : Job AnyKind) (asked : AskedRun) : Type 0 where
  pub asks : Asks words (run_of asked)
  pub few : asked.workers ≤ WORKER_LIMIT
  pub ready : IsReadyToRun own old new asked.net job

-- A make by so many workers is asked for, from a number within the bounds, and nothing was asked of the shelf.
pub record AsksMake (old new : Outside) (words : List (String Global)) (number workers : ℕ) : Type 0 where
  pub asks : Asks words (Make number workers)
  pub least : 1 ≤ number
  pub most : number ≤ NUMBER_LIMIT
  pub few : workers ≤ WORKER_LIMIT
  pub shelf : new ≡ old

-- The components of a network that is to run hold the parts of their processes, where these are the parts of each kind. Nothing else that may be to be done has parts.
abbrev pub HoldsTheirParts : {P : Type 0} → (P → Seen) → List KindSpec → List (List P) → Task AnyKind → Type 0
HoldsTheirParts seen own parts (tasks.Run job asked) = HoldTheirParts seen own parts job.plan job.components.items
HoldsTheirParts seen own parts other = ⊤

-- What the steps before a run, or before the printing of a check or a judge, do to the shelf.
abbrev pub Prepares : List Offer → Outside → Outside → List (String Global) → Result (Task AnyKind) Stop → Type 0
Prepares own old new words (Ok (tasks.Run job asked)) = AsksRun (specs_of own) old new words job (run_by asked)
Prepares own old new words (Ok (tasks.Check text)) = (name : Name) × Asks words (Check name)
    × ((net : List ℕ) × (plan : Network) × OnlyReads old new (whole (name, net) ∷ []) × IsFile (specs_of own) old.files name net text plan)
Prepares own old new words (Ok (tasks.Judge plan)) = (name : Name) × Asks words (Judge name)
    × ((net : List ℕ) × (text : NetText) × OnlyReads old new (whole (name, net) ∷ []) × IsFile (specs_of own) old.files name net text plan)
Prepares own old new words (Ok (tasks.Replay again)) = (name : Name) × (kept : Name) × (tapes : Option Name) × Asks words (Replay name kept tapes) × IsReadyAgain (specs_of own) old new name kept tapes again
Prepares own old new words (Ok (tasks.Make number workers)) = AsksMake old new words number workers
Prepares own old new words (Ok (tasks.Page page)) = Asks words (Page page) × (new ≡ old)
Prepares own old new words (Err stop) = (recorded : Recorded) → IsNothing recorded → HasCause (so_far words own old new recorded) stop
