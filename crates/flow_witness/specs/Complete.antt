-- That what the top calls ask before they promise to come to their end can be had: calls over files that are told, of a network whose LoadBalance sees levels.
use Rattle.std.specs.Prelude.{◌≡◌, ℕ, true, false, List, [], ◌∷◌, ◌++◌, replicate, map, codes, Option, Some, None, String, if◌then◌else◌}
use Rattle.std.specs.Str.{bytes_eq}
use Rattle.std.specs.declared.alloc.Global.{Global}
use Rattle.flow_text.specs.Edge.{Outside, Name, Files}
use Rattle.flow_plan.specs.declared.kind.PortClass.TheVariants.{Stream}
use Rattle.flow_plan.specs.declared.plan.Connection.{Connection}
use Rattle.flow_plan.specs.declared.plan.PortTable.{PortTable}
use Rattle.flow_plan.specs.Network.{Network}
use Rattle.flow_words.specs.Words.{Asked, AskedReport, run_of, Run, Check, Judge, Replay, command_of}
use Rattle.flow_journal.specs.Files.{IsFileOf}
use Rattle.flow_journal.specs.declared.merge.Journal.{Journal}
use Rattle.flow_load.specs.Step.{Filled, whole}
use Rattle.flow_load.specs.Offers.{Offer}
use Rattle.flow_load.specs.Reads.{Asks}
use Rattle.flow_cli.specs.Top.{Call, ComesToEnd, NoFaults}
use Rattle.flow_load.specs.Valid.{IsValid, IsValidReplay}
use Rattle.flow_witness.specs.Chain.{plain_row, reader_of}
use Rattle.flow_witness.specs.Ends.{reader_ports}

-- The network file: a reader of the file x, a LoadBalance of two outputs, and two processes that drop what they get.
abbrev pub network_bytes : List ℕ
network_bytes = codes "flow 1\n'x' -> FILE R(ReadLines)\nR OUT -> IN L(LoadBalance)\nL OUT[0] -> IN A(Discard)\nL OUT[1] -> IN B(Discard)\n"

-- The reader's file: one line.
abbrev pub input_bytes : List ℕ
input_bytes = codes "a\n"

-- A connection of the capacity 10, from an output of a process to input 0 of another.
abbrev pub balance_link : ℕ → ℕ → ℕ → Connection
balance_link sender output receiver = record { receiver = receiver; input = 0; capacity = 10; senders = record { process = sender; output = output } ∷ [] }

-- The ports of a process that drops what it gets.
abbrev pub discard_ports : PortTable
discard_ports = record { inputs = plain_row (codes "IN") Stream ∷ []; outputs = [] }

-- The plan of the network file.
abbrev pub balance : Network
balance = record {
  processes =
      reader_of (codes "R") (codes "x")
      ∷ record { name = codes "L"; kind = codes "LoadBalance"; options = []; initials = []; inputs = 1; outputs = 2 }
      ∷ record { name = codes "A"; kind = codes "Discard"; options = []; initials = []; inputs = 1; outputs = 0 }
      ∷ record { name = codes "B"; kind = codes "Discard"; options = []; initials = []; inputs = 1; outputs = 0 }
      ∷ [];
  connections = balance_link 0 0 1 ∷ balance_link 1 0 2 ∷ balance_link 1 1 3 ∷ [];
  tables =
      reader_ports
      ∷ record { inputs = plain_row (codes "IN") Stream ∷ []; outputs = record { spec = record { name = codes "OUT"; class = Stream; array = true; needed = true }; elements = 2 } ∷ [] }
      ∷ discard_ports
      ∷ discard_ports
      ∷ [];
}

-- A journal of it: five turns of the reader; ten of the LoadBalance, two of which see how full an output is; five of the process that gets the line; and one of the other.
abbrev pub balance_journal : Journal
balance_journal = record { turns = replicate 5 0 ++ (replicate 10 1 ++ (replicate 5 2 ++ 3 ∷ [])); seen = 0 ∷ 0 ∷ [] }

-- The journal's file: its name, the numbers of turns and of seen numbers in four bytes each, the turns in a byte each, the seen numbers in two bytes each.
abbrev pub journal_bytes : List ℕ
journal_bytes = codes "FLOWJ001" ++ (21 ∷ 0 ∷ 0 ∷ 0 ∷ 2 ∷ 0 ∷ 0 ∷ 0 ∷ []) ++ ((replicate 5 0 ++ (replicate 10 1 ++ (replicate 5 2 ++ 3 ∷ []))) ++ (0 ∷ 0 ∷ 0 ∷ 0 ∷ []))

-- The three files by their names.
abbrev pub network_file : Filled
network_file = (codes "net", network_bytes)

-- The file of the reader.
abbrev pub input_file : Filled
input_file = (codes "x", input_bytes)

-- The file of the journal.
abbrev pub journal_file : Filled
journal_file = (codes "j", journal_bytes)

-- What the shelf holds: these files and no others.
abbrev pub held_files : Files
held_files name =
    if bytes_eq name (codes "net") then Some network_bytes else (if bytes_eq name (codes "x") then Some input_bytes else (if bytes_eq name (codes "j") then Some journal_bytes else None))

-- A shelf, which tells that it holds these files, before anything was read.
abbrev pub shelf_with : Files → Outside
shelf_with held = record {
  open_name = None;
  left = None;
  read_faults = 0;
  last_read_fault = None;
  created_name = None;
  taken = None;
  write_faults = 0;
  last_write_fault = None;
  files = Some held;
  opened = [];
  created = [];
}

-- The shelf with the three files.
abbrev pub shelf_before : Outside
shelf_before = shelf_with held_files

-- A call over a shelf that holds these files, with these words, whose caller offers this of its own, in which all premises hold: no count of faults rose, and what was read, some of the files, is
-- valid. It came to its end.
pub record MeetsPremises (own : List Offer) (held : Files) (words : List (String Global)) (read : List Filled) : Type 0 where
  pub call : Call
  pub words_are : call.work.words ≡ words
  pub own_is : call.work.own ≡ own
  pub shelf : call.work.before ≡ shelf_with held
  pub opened : call.work.after.opened ≡ map whole read
  pub faults : NoFaults call
  pub valid : IsValid call.work
  pub ends : ComesToEnd call

-- Whatever the words are that ask for this, there is such a call with them.
abbrev pub CanMeet : List Offer → Files → Asked → List Filled → Type 0
CanMeet own held asked read = (words : List (String Global)) → Asks words asked → MeetsPremises own held words read

-- What the top calls ask before they promise to come to their end can be had of each form that has a network file, on files that are told, and calls that have it come to their end. The
-- journal's file, whose level turns saw numbers, holds a schedule of the network on what its reader's file gave, whatever components there are on that.
pub record PremisesAreMet : Type 0 where
  pub journal_is : IsFileOf balance_journal journal_bytes
  pub schedule : IsValidReplay [] None (map whole (network_file ∷ journal_file ∷ input_file ∷ [])) balance
  pub replay : CanMeet [] held_files (Replay (codes "net") (codes "j") None) (network_file ∷ journal_file ∷ input_file ∷ [])
  pub run : (kept tapes : Option Name) (workers : ℕ) (report : AskedReport) → CanMeet [] held_files (run_of (record { net = codes "net"; journal = kept; tapes = tapes; workers = workers; report = report })) (network_file ∷ input_file ∷ [])
  pub check : CanMeet [] held_files (Check (codes "net")) (network_file ∷ [])
  pub judge : CanMeet [] held_files (Judge (codes "net")) (network_file ∷ [])
  -- Such words there are: of each form these texts.
  pub asks_replay : command_of (codes "--replay" ∷ codes "j" ∷ codes "net" ∷ []) ≡ Some (Replay (codes "net") (codes "j") None)
  pub asks_run : command_of (codes "net" ∷ []) ≡ Some (Run (codes "net") None None 0 (record { file = None; quiet = false; brief = false }))
  pub asks_check : command_of (codes "--check" ∷ codes "net" ∷ []) ≡ Some (Check (codes "net"))
  pub asks_judge : command_of (codes "--determinate" ∷ codes "net" ∷ []) ≡ Some (Judge (codes "net"))
