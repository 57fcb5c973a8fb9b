-- When what a call has read is valid, so that there is no cause in its files to stop.
use Rattle.std.specs.Prelude.{◌≡◌, ◌⊎◌, ℕ, ◌≤◌, List, [], ◌++◌, length, map, drop, slice_get, Some, None, String}
use Rattle.std.specs.declared.alloc.Global.{Global}
use Rattle.std.specs.declared.option.Option.{Option}
use Rattle.flow_limits.specs.declared.TheConstants.{FILE_LIMIT}
use Rattle.flow_text.specs.Edge.{Name, Logged}
use Rattle.flow_plan.specs.Network.{Network}
use Rattle.flow_words.specs.Words.{Asked, AskedRun, run_of, Replay}
use Rattle.flow_tape.specs.Faults.{IsFileOf as IsFileOfTapes}
use Rattle.flow_tape.specs.declared.TheConstants.{TAPE_FILE_LIMIT}
use Rattle.flow_plan.specs.declared.kind.KindSpec.{KindSpec}
use Rattle.flow_offer.specs.Processes.{own_processes}
use Rattle.flow_offer.specs.Shares.{FindsNoPart}
use Rattle.flow_parse.specs.declared.value.NetText.{NetText}
use Rattle.flow_model.specs.States.{State}
use Rattle.flow_model.specs.Schedules.{Leads}
use Rattle.flow_model.specs.Plans.{start_of}
use Rattle.flow_journal.specs.Files.{IsFileOf}
use Rattle.flow_journal.specs.Replays.{schedule_of}
use Rattle.flow_journal.specs.declared.merge.Journal.{Journal}
use Rattle.flow_load.specs.Step.{MayFollow, whole}
use Rattle.flow_load.specs.Offers.{AnyKind, Offer, Taped, net_rules, specs_of, parts_of}
use Rattle.flow_load.specs.Components.{inputs_of, AreComponents}
use Rattle.flow_load.specs.Networks.{Holds}
use Rattle.flow_load.specs.Reads.{Asks, file_of, IsCommand}
use Rattle.flow_load.specs.Causes.{Work}

-- The words ask for a replay.
abbrev pub IsReplay : List (String Global) → Type 0
IsReplay words = (name : Name) × (kept : Name) × (tapes : Option Name) × Asks words (Replay name kept tapes)

-- The file at this place among those that were opened was read to its end, and gave these bytes.
abbrev pub GaveAt : List Logged → ℕ → List ℕ → Type 0
GaveAt read place bytes = (name : Name) × (slice_get read place ≡ Some (whole (name, bytes)))

-- The file at this place is that of a journal, which a replay reads behind the network file.
abbrev pub IsJournalAt : List (String Global) → ℕ → Type 0
IsJournalAt words place = (place ≡ 1) × IsReplay words

-- The file at this place is that of the tapes that a replay names, which it reads behind that of the journal.
abbrev pub IsTapesAt : List (String Global) → ℕ → Type 0
IsTapesAt words place = (place ≡ 2) × ((name : Name) × (kept : Name) × (named : Name) × Asks words (Replay name kept (Some named)))

-- How many bytes the file at this place may give: one of tapes more than any other.
abbrev pub IsLimitAt : List (String Global) → ℕ → ℕ → Type 0
IsLimitAt words place limit = (IsTapesAt words place × (limit ≡ TAPE_FILE_LIMIT)) ⊎ ((IsTapesAt words place → ⊥) × (limit ≡ FILE_LIMIT))

-- What the journal's file gave is the file of a journal, or begins one and isn't at its end.
abbrev pub BeginsJournal : Logged → Type 0
BeginsJournal given = (rest : List ℕ) × MayFollow given rest × ((journal : Journal) × IsFileOf journal (given.bytes ++ rest))

-- The tapes that a replay's file gave, where it names one; without one there are none.
abbrev pub TapesIn : Option Name → List Logged → List Taped → Type 0
TapesIn None read told = told ≡ []
TapesIn (Some name) read told = (bytes : List ℕ) × GaveAt read 2 bytes × IsFileOfTapes told bytes

-- The files behind those that a replay reads for itself.
abbrev pub files_behind : Option Name → List Logged → List Logged
files_behind None read = drop 2 read
files_behind (Some name) read = drop 3 read

-- There are as many tapes as processes of kinds of the caller's own: those of the file, if it was read, or none.
abbrev pub HasTapes : List KindSpec → Option Name → List Logged → Network → Type 0
HasTapes own None read plan = own_processes own plan ≡ []
HasTapes own (Some name) read plan = (bytes : List ℕ) → GaveAt read 2 bytes → (told : List Taped) × IsFileOfTapes told bytes × (length told ≡ length (own_processes own plan))

-- What a replay read behind the file of this network is valid, as far as it was read: its journal's file holds a journal; there are as many tapes as there are processes for them; and the journal
-- is a schedule from the start of the plan, on what the files behind gave.
pub record IsValidReplay (own : List KindSpec) (tapes : Option Name) (read : List Logged) (plan : Network) : Type 0 where
  pub journal : (given : Logged) → slice_get read 1 ≡ Some given → BeginsJournal given
  pub tapes_are : HasTapes own tapes read plan
  pub schedule : (bytes : List ℕ) (journal : Journal) (told : List Taped) (given : List (List ℕ)) (components : List AnyKind) → GaveAt read 1 bytes → IsFileOf journal bytes → TapesIn tapes read told
      → files_behind tapes read ≡ map whole (inputs_of plan.processes given) → AreComponents own plan given told components → (last : State AnyKind) × Leads net_rules (start_of plan components) (schedule_of journal) last

-- What the files gave that were read in a call with these words, in order, is valid: the network file holds a value with a plan; no file but a journal's gave more
-- than its limit; in a run there is a part for each process of a kind of the caller's own; and what a replay read besides is valid with that network.
pub record AreValid (own : List Offer) (words : List (String Global)) (read : List Logged) : Type 0 where
  pub network : (net : List ℕ) → GaveAt read 0 net → (text : NetText) × (plan : Network) × Holds (specs_of own) net text plan
  pub short : (place limit : ℕ) (file : Logged) → slice_get read place ≡ Some file → (IsJournalAt words place → ⊥) → IsLimitAt words place limit → length file.bytes ≤ limit
  pub parts : (asked : AskedRun) (net : List ℕ) (text : NetText) (plan : Network) (p : ℕ) → Asks words (run_of asked) → GaveAt read 0 net → Holds (specs_of own) net text plan
      → FindsNoPart (specs_of own) (parts_of own) plan p → ⊥
  pub replay : (name kept : Name) (tapes : Option Name) (net : List ℕ) (text : NetText) (plan : Network) → Asks words (Replay name kept tapes) → GaveAt read 0 net → Holds (specs_of own) net text plan
      → IsValidReplay (specs_of own) tapes read plan

-- The words ask for what has no network file; or they name one, and what was read is valid, whatever that was.
abbrev pub IsValid : Work → Type 0
IsValid w = ((asked : Asked) × Asks w.words asked × (file_of asked ≡ None))
    ⊎ ((name : Name) × IsCommand w.words name × ((read : List Logged) → w.after.opened ≡ w.before.opened ++ read → AreValid w.own w.words read))
