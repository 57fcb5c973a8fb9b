-- The same where a caller has a kind of its own: a run with a part for its process, and a replay with a file of tapes, by a caller that has no part.
use Rattle.std.specs.Prelude.{◌≡◌, ℕ, true, false, List, [], ◌∷◌, ◌++◌, codes, Option, Some, None, if◌then◌else◌}
use Rattle.std.specs.Str.{bytes_eq}
use Rattle.flow_text.specs.Edge.{Name, Files}
use Rattle.flow_component.specs.declared.Answer.TheVariants as answers
use Rattle.flow_component.specs.declared.OwnFail.TheVariants as owns
use Rattle.flow_own.specs.declared.tape.End.TheVariants as ends
use Rattle.flow_tape.specs.Faults.{IsFileOf as IsFileOfTapes}
use Rattle.flow_plan.specs.declared.kind.KindSpec.{KindSpec}
use Rattle.flow_plan.specs.declared.kind.PortClass.TheVariants.{Stream}
use Rattle.flow_plan.specs.declared.plan.Process.{Process}
use Rattle.flow_plan.specs.Network.{Network}
use Rattle.flow_words.specs.Words.{AskedReport, run_of, Replay, command_of}
use Rattle.flow_journal.specs.Files.{IsFileOf}
use Rattle.flow_journal.specs.declared.merge.Journal.{Journal}
use Rattle.flow_load.specs.Step.{Filled}
use Rattle.flow_load.specs.Offers.{Offer, Taped}
use Rattle.flow_witness.specs.Complete.{CanMeet, discard_ports}

-- The kind: packets come in at IN.
abbrev pub lone_kind : KindSpec
lone_kind = record { name = codes "Own"; inputs = record { name = codes "IN"; class = Stream; array = false; needed = true } ∷ []; outputs = [] }

-- What a caller offers that has so many parts for processes of it.
abbrev pub lone_offer : ℕ → List Offer
lone_offer parts = record { spec = lone_kind; parts = parts } ∷ []

-- The network file: one process of the kind, with a text at its input.
abbrev pub lone_bytes : List ℕ
lone_bytes = codes "flow 1\n'a' -> IN A(Own)\n"

-- The process of the network.
abbrev pub lone_process : Process
lone_process = record { name = codes "A"; kind = codes "Own"; options = []; initials = (0, codes "a") ∷ []; inputs = 1; outputs = 0 }

-- The plan of the network file.
abbrev pub lone : Network
lone = record { processes = lone_process ∷ []; connections = []; tables = discard_ports ∷ [] }

-- The tape: the part was started, and failed with the number 7.
abbrev pub lone_tape : Taped
lone_tape = record { answer = answers.Start; made = None; dropped = []; end = ends.Fail (owns.Own 7) } ∷ []

-- The journal: the turn by which the process was started.
abbrev pub lone_journal : Journal
lone_journal = record { turns = 0 ∷ []; seen = [] }

-- The journal's file: its name, the numbers of turns and of seen numbers in four bytes each, and the turn in a byte.
abbrev pub lone_journal_bytes : List ℕ
lone_journal_bytes = codes "FLOWJ001" ++ (1 ∷ 0 ∷ 0 ∷ 0 ∷ 0 ∷ 0 ∷ 0 ∷ 0 ∷ 0 ∷ [])

-- The file of the tape: its name, one tape, with one entry; in that the answer, nothing made, nothing dropped, and the failure with its number.
abbrev pub lone_tape_bytes : List ℕ
lone_tape_bytes = codes "FLOWT001" ++ (1 ∷ 0 ∷ 0 ∷ 0 ∷ []) ++ (1 ∷ 0 ∷ 0 ∷ 0 ∷ []) ++ (0 ∷ 0 ∷ 0 ∷ 0 ∷ 4 ∷ 7 ∷ 0 ∷ 0 ∷ 0 ∷ [])

-- The three files by their names.
abbrev pub lone_file : Filled
lone_file = (codes "net", lone_bytes)

-- The file of the journal.
abbrev pub lone_journal_file : Filled
lone_journal_file = (codes "j", lone_journal_bytes)

-- The file of the tape.
abbrev pub lone_tape_file : Filled
lone_tape_file = (codes "t", lone_tape_bytes)

-- What the shelf holds: these files and no others.
abbrev pub lone_files : Files
lone_files name =
    if bytes_eq name (codes "net") then Some lone_bytes else (if bytes_eq name (codes "j") then Some lone_journal_bytes else (if bytes_eq name (codes "t") then Some lone_tape_bytes else None))

-- A caller that has one part meets the premises in a run, and one that has none in a replay with a file of tapes; and their calls come to their end.
pub record PremisesWithPartsAreMet : Type 0 where
  pub journal_is : IsFileOf lone_journal lone_journal_bytes
  pub tapes_are : IsFileOfTapes (lone_tape ∷ []) lone_tape_bytes
  pub replay : CanMeet (lone_offer 0) lone_files (Replay (codes "net") (codes "j") (Some (codes "t"))) (lone_file ∷ lone_journal_file ∷ lone_tape_file ∷ [])
  pub run : (kept tapes : Option Name) (workers : ℕ) (report : AskedReport) → CanMeet (lone_offer 1) lone_files (run_of (record { net = codes "net"; journal = kept; tapes = tapes; workers = workers; report = report })) (lone_file ∷ [])
  -- Words for the replay there are: these texts.
  pub asks_replay : command_of (codes "--replay" ∷ codes "j" ∷ codes "--tapes" ∷ codes "t" ∷ codes "net" ∷ []) ≡ Some (Replay (codes "net") (codes "j") (Some (codes "t")))
