-- A run as it is asked for: its turns from the start of a network to the state in which no process can go on, and the files of that state and of the run.
use Rattle.std.specs.Prelude.{◌≡◌, ◌+◌, ◌++◌, ℕ, List, [], ◌∷◌, Some, None, length, map, slice_get, unwrap_or, option_and_then}
use Rattle.std.specs.declared.option.Option.{Option}
use Rattle.flow_text.specs.Edge.{Name}
use Rattle.flow_plan.specs.declared.plan.Process.{Process}
use Rattle.flow_plan.specs.Network.{Network}
use Rattle.flow_catalogue.specs.Std.{written_of}
use Rattle.flow_own.specs.Mixed.{Other, Own}
use Rattle.flow_tape.specs.Files.{written as tapes_written}
use Rattle.flow_words.specs.Words.{AskedRun}
use Rattle.flow_model.specs.Replaced.{OfEach}
use Rattle.flow_model.specs.States.{State}
use Rattle.flow_journal.specs.Files.{written}
use Rattle.flow_journal.specs.Replays.{schedule_of}
use Rattle.flow_journal.specs.declared.merge.Journal.{Journal}
use Rattle.flow_journal.specs.Runs.{IsRun}
use Rattle.flow_load.specs.Step.{Filled}
use Rattle.flow_load.specs.Offers.{AnyKind, Taped, Recorded, net_rules}
use Rattle.flow_load.specs.Components.{written_by}

-- This is the journal of the run of a plan with these components by so many workers, of which none is one thread; and this the state to which it leads.
abbrev pub RunsTo : ℕ → Network → List AnyKind → Journal → State AnyKind → Type 0
RunsTo workers plan components journal last = IsRun net_rules workers plan components (schedule_of journal) last

-- The component, if it is a player, stands behind the last entry of its tape.
abbrev pub IsPlayedOut : AnyKind → Type 0
IsPlayedOut (Other component) = Unit {0}
IsPlayedOut (Own value) = value.place ≡ Some (length value.tape)

-- So does each player of a state: nothing is on a tape that wasn't played.
abbrev pub ArePlayedOut : State AnyKind → Type 0
ArePlayedOut s = OfEach (λ p. IsPlayedOut) s

-- The file that a process writes, with its bytes, if it writes one; where `wrote` says what each process wrote.
abbrev pub outputs_at : (ℕ → List ℕ) → ℕ → Process → List Filled
outputs_at wrote p process = map (λ name. (name, wrote p)) (written_by process)

-- Those of these processes, in order, from process p on.
abbrev pub outputs_from : (ℕ → List ℕ) → ℕ → List Process → List Filled
outputs_from wrote p [] = []
outputs_from wrote p (process ∷ processes) = outputs_at wrote p process ++ outputs_from wrote (p + 1) processes

-- What a component wrote, if it is a writer.
abbrev pub written_in : AnyKind → Option (List ℕ)
written_in (Other component) = written_of component
written_in (Own value) = None

-- The bytes that process p wrote.
abbrev pub bytes_in : State AnyKind → ℕ → List ℕ
bytes_in s p = unwrap_or (option_and_then (λ x. written_in x.component) (slice_get s.kept.processes p)) []

-- The files of a state with their bytes, in the order of the processes.
abbrev pub outputs_of : Network → State AnyKind → List Filled
outputs_of plan s = outputs_from (bytes_in s) 0 plan.processes

-- The file of the journal of a run, where one was named.
abbrev pub journal_file : Option Name → Journal → List Filled
journal_file None journal = []
journal_file (Some name) journal = (name, written journal) ∷ []

-- The file of the tapes of a run, where one was named.
abbrev pub tapes_file : Option Name → List Taped → List Filled
tapes_file None tapes = []
tapes_file (Some name) tapes = (name, tapes_written tapes) ∷ []

-- The files of a run that it keeps for a replay: that of its journal and that of its tapes, where they were named.
abbrev pub kept_files : AskedRun → Recorded → List Filled
kept_files asked recorded = journal_file asked.journal recorded.journal ++ tapes_file asked.tapes recorded.tapes

-- The file of the report of a run, where one was named.
abbrev pub report_file : Option Name → List ℕ → List Filled
report_file None report = []
report_file (Some name) report = (name, report) ∷ []

-- The files of a run with their bytes: those of its last state, then those that it keeps for a replay, and then that of its report, where one was named.
abbrev pub files_of_run : Network → State AnyKind → AskedRun → Recorded → List ℕ → List Filled
files_of_run plan last asked recorded report = (outputs_of plan last ++ kept_files asked recorded) ++ report_file asked.report.file report
