-- The statuses and the printed texts of stops.
use Rattle.std.specs.Prelude.{◌≡◌, ℕ, List, [], ◌∷◌, ◌++◌, string_bytes, codes, ⊤}
use Rattle.std.specs.Fmt.{decimal}
use Rattle.flow_text.specs.Edge.{Name}
use Rattle.flow_text.specs.declared.edge.ShelfStop.{ShelfStop}
use Rattle.flow_text.specs.declared.edge.ShelfStop.TheVariants as shelf
use Rattle.flow_text.specs.declared.all.ReadStop.{ReadStop}
use Rattle.flow_text.specs.declared.all.ReadStop.TheVariants as file
use Rattle.flow_load.specs.declared.status.Status.{Status}
use Rattle.flow_load.specs.declared.status.Status.TheVariants as statuses
use Rattle.flow_load.specs.declared.stop.Stop.{Stop}
use Rattle.flow_load.specs.declared.stop.Stop.TheVariants.{Words, Refused, NoPart, JournalRefused, TapesRefused, ReadFault, WriteFault, TooLong, NoMemory}
use Rattle.flow_expand.specs.Refusals.{fault_text, net_fault_text}
use Rattle.flow_journal.specs.declared.refusal.Refusal.{Refusal as NoTurn}
use Rattle.flow_journal.specs.declared.refusal.ReplayStop.{ReplayStop}
use Rattle.flow_journal.specs.declared.refusal.ReplayStop.TheVariants as replays
use Rattle.flow_journal.specs.declared.refusal.Refusal.TheVariants.{NoProcess, Over, Blocked, Seen}
use Rattle.flow_load.specs.declared.stop.NetRefusal.{NetRefusal}
use Rattle.flow_load.specs.declared.stop.NetRefusal.TheVariants as refusals
use Rattle.flow_load.specs.declared.stop.JournalRefusal.{JournalRefusal}
use Rattle.flow_load.specs.declared.stop.JournalRefusal.TheVariants.{Byte, Turn}
use Rattle.flow_load.specs.declared.stop.TapesRefusal.{TapesRefusal}
use Rattle.flow_load.specs.declared.stop.TapesRefusal.TheVariants as tapes_refusals

-- The status with which a stop ends the program.
abbrev pub status_of : Stop → Status
status_of Words = statuses.Words
status_of (Refused refusal) = statuses.Refused
status_of (NoPart process) = statuses.Refused
status_of (JournalRefused refusal) = statuses.JournalRefused
status_of (TapesRefused refusal) = statuses.TapesRefused
status_of (ReadFault name) = statuses.ReadFault
status_of (WriteFault name) = statuses.WriteFault
status_of NoMemory = statuses.NoMemory
status_of (TooLong name) = statuses.TooLong

-- What is said of a refused network.
abbrev pub refusal_text : NetRefusal → List ℕ
refusal_text (refusals.Line fault) = net_fault_text fault
refusal_text (refusals.Network fault) = fault_text fault

-- Why a process made no turn.
abbrev pub reason_text : NoTurn → List ℕ
reason_text NoProcess = codes "unknown"
reason_text Over = codes "over"
reason_text (Blocked waits) = codes "blocked"
reason_text Seen = codes "seen"

-- What is said of a refused journal: the place of the byte that can't stand there; or the place of the turn, its process, and why that made none.
abbrev pub journal_refusal_text : JournalRefusal → List ℕ
journal_refusal_text (Byte place) = codes "byte " ++ decimal place
journal_refusal_text (Turn place process refusal) = codes "entry " ++ decimal place ++ codes ": process " ++ decimal process ++ 32 ∷ reason_text refusal

-- What is said of refused tapes: the place of the byte that can't stand there; or how many tapes there are, which aren't as many as there are processes for them.
abbrev pub tapes_refusal_text : TapesRefusal → List ℕ
tapes_refusal_text (tapes_refusals.Byte place) = codes "byte " ++ decimal place
tapes_refusal_text (tapes_refusals.Count count) = codes "count " ++ decimal count

-- The line that is printed for a stop.
abbrev pub text_of : Stop → List ℕ
text_of Words = codes "usage: flow [--workers N] [--journal FILE] [--check] [--determinate] [--kinds] [--replay FILE] [--make N] [--tapes FILE] [NETFILE]" ++ 10 ∷ []
text_of (Refused refusal) = codes "network refused: " ++ refusal_text refusal ++ 10 ∷ []
text_of (NoPart process) = codes "network refused: no part " ++ process ++ 10 ∷ []
text_of (JournalRefused refusal) = codes "journal refused: " ++ journal_refusal_text refusal ++ 10 ∷ []
text_of (TapesRefused refusal) = codes "tapes refused: " ++ tapes_refusal_text refusal ++ 10 ∷ []
text_of (ReadFault name) = codes "read fault: " ++ string_bytes name ++ 10 ∷ []
text_of (WriteFault name) = codes "write fault: " ++ string_bytes name ++ 10 ∷ []
text_of NoMemory = codes "no memory" ++ 10 ∷ []
text_of (TooLong name) = codes "too long: " ++ string_bytes name ++ 10 ∷ []

-- The stop of a read of this name. Want of memory is free, since the stop keeps the name.
abbrev pub IsReadStop : ReadStop → Name → Stop → Type 0
IsReadStop file.Fault name (ReadFault read) = string_bytes read ≡ name
IsReadStop (file.TooLong told) name (TooLong read) = string_bytes read ≡ name
IsReadStop stop name NoMemory = ⊤
IsReadStop stop name other = ⊥

-- The stop of a write to this name. Want of memory is free, since the stop keeps the name.
abbrev pub IsWriteStop : ShelfStop → Name → Stop → Type 0
IsWriteStop shelf.Fault name (WriteFault written) = string_bytes written ≡ name
IsWriteStop stop name NoMemory = ⊤
IsWriteStop stop name other = ⊥

-- The stop of a replay that stopped.
abbrev pub stop_of_replay : ReplayStop → Stop
stop_of_replay (replays.NoTurn place process refusal) = JournalRefused (Turn place process refusal)
stop_of_replay replays.NoMemory = NoMemory
