-- What a call reads before a network runs, or is made to run again: the network file, the files of a journal and of tapes, the files of the network's readers.
use Rattle.std.specs.Prelude.{◌≡◌, ◌⊎◌, ◌≤◌, ◌+◌, ℕ, max, List, [], ◌∷◌, ◌++◌, length, map, Some, None, String, string_bytes}
use Rattle.std.specs.declared.alloc.Global.{Global}
use Rattle.std.specs.declared.option.Option.{Option}
use Rattle.std.specs.Option.{option_and_then}
use Rattle.flow_limits.specs.declared.TheConstants.{FILE_LIMIT, JOURNAL_FILE_LIMIT}
use Rattle.flow_tape.specs.Faults.{IsFileOf as IsFileOfTapes}
use Rattle.flow_tape.specs.declared.TheConstants.{TAPE_FILE_LIMIT}
use Rattle.flow_plan.specs.declared.kind.KindSpec.{KindSpec}
use Rattle.flow_text.specs.Edge.{Outside, Name, Files, Logged}
use Rattle.flow_plan.specs.Network.{Network}
use Rattle.flow_words.specs.Words.{Asked, AskedRun, Run, run_of, Check, Judge, Replay, Make, Page, workers_asked, command_of}
use Rattle.flow_parse.specs.declared.value.NetText.{NetText}
use Rattle.flow_journal.specs.Files.{IsFileOf, IsFault}
use Rattle.flow_journal.specs.declared.file.TheConstants.{HEADER_LENGTH}
use Rattle.flow_journal.specs.declared.merge.Journal.{Journal}
use Rattle.flow_load.specs.Step.{Filled, OnlyReads, IsRead, IsFrontOf, MayFollow, whole}
use Rattle.flow_load.specs.Offers.{Taped}
use Rattle.flow_load.specs.Components.{inputs_of, AreRead, IsNext}
use Rattle.flow_offer.specs.Processes.{IsOfferedPlan}
use Rattle.flow_load.specs.Networks.{Holds}

-- What the words ask for, if they are a command line.
abbrev pub Asks : List (String Global) → Asked → Type 0
Asks words asked = command_of (map string_bytes words) ≡ Some asked

-- The name of the network file of what is asked for. A make has none, nor has a page.
abbrev pub file_of : Asked → Option Name
file_of (Run name keeps tapes workers report) = Some name
file_of (Check name) = Some name
file_of (Judge name) = Some name
file_of (Replay name kept tapes) = Some name
file_of (Make number workers) = None
file_of (Page page) = None

-- The words ask for workers: they are a run or a make by one worker or more.
pub record AsksWorkers (words : List (String Global)) : Type 0 where
  pub asked : Asked
  pub asks : Asks words asked
  pub least : 1 ≤ workers_asked asked

-- The words are a command line on this network file.
abbrev pub IsCommand : List (String Global) → Name → Type 0
IsCommand words name = option_and_then file_of (command_of (map string_bytes words)) ≡ Some name

-- The network file of this name gave these bytes, which spell this value; and this is its plan, a valid one over the standard kinds and these of the caller's own.
pub record IsFile (own : List KindSpec) (told : Option Files) (name : Name) (net : List ℕ) (text : NetText) (plan : Network) : Type 0 where
  pub read : IsRead told FILE_LIMIT (name, net)
  pub holds : Holds own net text plan
  pub over : IsOfferedPlan own plan

-- The file of this name gave these bytes, which are the file of this journal.
pub record IsJournalFile (told : Option Files) (name : Name) (bytes : List ℕ) (journal : Journal) : Type 0 where
  pub read : IsRead told JOURNAL_FILE_LIMIT (name, bytes)
  pub is : IsFileOf journal bytes

-- The file of this name gave these bytes, which are the file of these tapes.
pub record IsTapesFile (told : Option Files) (name : Name) (bytes : List ℕ) (tapes : List Taped) : Type 0 where
  pub read : IsRead told TAPE_FILE_LIMIT (name, bytes)
  pub is : IsFileOfTapes tapes bytes

-- The tapes of a replay: those of the file that it names, which was read; or none where it names no file.
abbrev pub AreTapes : Option Files → Option Name → List Filled → List Taped → Type 0
AreTapes told None files tapes = (files ≡ []) × (tapes ≡ [])
AreTapes told (Some name) files tapes = (bytes : List ℕ) × IsTapesFile told name bytes tapes × (files ≡ (name, bytes) ∷ [])

-- The fault of a journal's file is at this place, whatever may follow what the file gave. It gave no more than its header, or than its bytes up to that place.
pub record ShowsFault (told : Option Files) (kept : Name) (given : Logged) (place : ℕ) : Type 0 where
  pub named : given.name ≡ kept
  pub held : IsFrontOf told given
  pub few : length given.bytes ≤ max HEADER_LENGTH (place + 1)
  pub fault : (rest : List ℕ) → MayFollow given rest → IsFault (given.bytes ++ rest) place

-- What a replay reads behind the network file: the file of its journal, and then that of its tapes, where it names one.
pub record ReadsBehind (told : Option Files) (kept : Name) (tapes : Option Name) (between : List Filled) : Type 0 where
  pub bytes : List ℕ
  pub journal : Journal
  pub is_journal : IsJournalFile told kept bytes journal
  pub files : List Filled
  pub told_tapes : List Taped
  pub are_tapes : AreTapes told tapes files told_tapes
  pub between_is : between ≡ (kept, bytes) ∷ files

-- What a call with these words reads between the network file and the files of its network: nothing in a run, and in a replay the file of its journal and that of its tapes.
abbrev pub IsBetween : List (String Global) → Option Files → Name → List Filled → Type 0
IsBetween words told name between =
    ((asked : AskedRun) × Asks words (run_of asked) × (between ≡ []))
    ⊎ ((kept : Name) × (tapes : Option Name) × Asks words (Replay name kept tapes) × ReadsBehind told kept tapes between)

-- The network file was read, then these files, then that of each reader, in the order of the processes; each to its end, and nothing else. This is the
-- network's plan, and each of its processes was given these bytes: a reader what its file gave.
pub record IsReady (own : List KindSpec) (old new : Outside) (name : Name) (between : List Filled) (plan : Network) (given : List (List ℕ)) : Type 0 where
  pub net : List ℕ
  pub text : NetText
  pub file : IsFile own old.files name net text plan
  pub count : length given ≡ length plan.processes
  pub inputs : AreRead old.files (inputs_of plan.processes given)
  pub reads : OnlyReads old new (map whole ((name, net) ∷ (between ++ inputs_of plan.processes given)))

-- The file `read` is that of a reader of the network, and these are all files before it.
pub record IsInputNext (own : List KindSpec) (words : List (String Global)) (told : Option Files) (name : Name) (earlier : List Filled) (read : Name) : Type 0 where
  pub net : List ℕ
  pub text : NetText
  pub plan : Network
  pub file : IsFile own told name net text plan
  pub between : List Filled
  pub is_between : IsBetween words told name between
  pub inputs : List Filled
  pub next : IsNext told plan inputs read
  pub earlier_are : earlier ≡ (name, net) ∷ (between ++ inputs)

-- The file `read` is that of the journal, which a replay reads behind the network file.
pub record IsJournalNext (own : List KindSpec) (words : List (String Global)) (told : Option Files) (name : Name) (earlier : List Filled) (read : Name) : Type 0 where
  pub tapes : Option Name
  pub asks : Asks words (Replay name read tapes)
  pub net : List ℕ
  pub text : NetText
  pub plan : Network
  pub file : IsFile own told name net text plan
  pub earlier_are : earlier ≡ (name, net) ∷ []

-- The file `read` is that of the tapes, which a replay reads behind that of the journal.
pub record IsTapesNext (own : List KindSpec) (words : List (String Global)) (told : Option Files) (name : Name) (earlier : List Filled) (read : Name) : Type 0 where
  pub kept : Name
  pub asks : Asks words (Replay name kept (Some read))
  pub net : List ℕ
  pub text : NetText
  pub plan : Network
  pub file : IsFile own told name net text plan
  pub bytes : List ℕ
  pub journal : Journal
  pub is_journal : IsJournalFile told kept bytes journal
  pub earlier_are : earlier ≡ (name, net) ∷ (kept, bytes) ∷ []

-- The file `read` is the next one that the call reads behind these, which it read whole, and has this limit: the network file first; then, in a replay, that of the tapes; then, in a
-- run and in a replay, those of its network.
abbrev pub IsLimitedNext : List KindSpec → List (String Global) → Option Files → Name → List Filled → ℕ → Name → Type 0
IsLimitedNext own words told name earlier limit read =
    ((limit ≡ FILE_LIMIT) × (read ≡ name) × (earlier ≡ [])) ⊎ ((limit ≡ TAPE_FILE_LIMIT) × IsTapesNext own words told name earlier read) ⊎ ((limit ≡ FILE_LIMIT) × IsInputNext own words told name earlier read)

-- The file `read` is the next one that the call reads behind these: one that has a limit; or, in a replay, behind the network file, the journal's, which tells itself
-- how long it is.
abbrev pub IsNextFile : List KindSpec → List (String Global) → Option Files → Name → List Filled → Name → Type 0
IsNextFile own words told name earlier read = ((limit : ℕ) × IsLimitedNext own words told name earlier limit read) ⊎ IsJournalNext own words told name earlier read
