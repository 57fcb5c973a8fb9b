-- Tape files. (The format is this project's own.)
use Rattle.flow_limits.specs.declared.TheConstants.{PROCESS_LIMIT}
use Rattle.std.specs.Prelude.{◌≡◌, ℕ, ◌≤◌, List, [], ◌∷◌, ◌++◌, length, Option, Some, None, codes, slice_get}
use Rattle.std.specs.Int.{w16, w32, w64, to_le_bytes}
use Rattle.std.specs.List.{flat_map}
use Rattle.flow_packet.specs.declared.packet.Kind.{Kind}
use Rattle.flow_packet.specs.declared.packet.Kind.TheVariants as kinds
use Rattle.flow_component.specs.declared.Answer.{Answer}
use Rattle.flow_component.specs.declared.Answer.TheVariants as answers
use Rattle.flow_component.specs.declared.Wish.TheVariants as wishes
use Rattle.flow_component.specs.declared.OwnFail.TheVariants as owns
use Rattle.flow_own.specs.declared.tape.End.{End}
use Rattle.flow_own.specs.declared.tape.End.TheVariants as ends
use Rattle.flow_own.specs.declared.tape.Entry.{Entry}
use Rattle.flow_own.specs.Acts.{Made}
use Rattle.flow_own.specs.Recorded.{IsTapeWritable}

-- The name of the format, with which each file begins.
abbrev pub name : List ℕ
name = codes "FLOWT001"

-- A number of four bytes, and one of eight, the least byte first.
abbrev pub four : ℕ → List ℕ
four n = to_le_bytes w32 n

-- The same of eight bytes.
abbrev pub eight : ℕ → List ℕ
eight n = to_le_bytes w64 n

-- An answer: a byte for its case, and its number.
abbrev pub answer_written : Answer → List ℕ
answer_written answers.Start = 0 ∷ []
answer_written (answers.Got id) = 1 ∷ eight id
answer_written answers.End = 2 ∷ []
answer_written answers.Sent = 3 ∷ []
answer_written (answers.Level level) = 4 ∷ four level

-- The byte for the kind of a packet that was made.
abbrev pub kind_byte : Kind → ℕ
kind_byte kinds.Normal = 1
kind_byte kinds.Open = 2
kind_byte kinds.Close = 3

-- What was made: 0 for nothing; or the kind, the length of the text, and the text.
abbrev pub made_written : Option Made → List ℕ
made_written None = 0 ∷ []
made_written (Some made) = kind_byte made.0 ∷ four (length made.1) ++ made.1

-- What was dropped: how many packets, in two bytes, and their ids.
abbrev pub dropped_written : List ℕ → List ℕ
dropped_written ids = to_le_bytes w16 (length ids) ++ flat_map eight ids

-- An end: a byte for its case, and its numbers. A failure of a player has no file.
abbrev pub end_written : End → List ℕ
end_written (ends.Wish (wishes.Receive port)) = 0 ∷ four port.0
end_written (ends.Wish (wishes.Send port id)) = 1 ∷ four port.0 ++ eight id
end_written (ends.Wish (wishes.Level port)) = 2 ∷ four port.0
end_written (ends.Wish wishes.Deactivate) = 3 ∷ []
end_written (ends.Fail (owns.Own number)) = 4 ∷ four number
end_written (ends.Fail (owns.Packet id)) = 5 ∷ eight id
end_written (ends.Fail (owns.Port port)) = 6 ∷ four port
end_written (ends.Fail owns.TapeLimit) = 7 ∷ []
end_written (ends.Fail owns.Differs) = []

-- An entry is its four parts, one after another.
abbrev pub entry_written : Entry → List ℕ
entry_written entry = answer_written entry.answer ++ made_written entry.made ++ dropped_written entry.dropped ++ end_written entry.end

-- A tape: how many entries, and the entries.
abbrev pub tape_written : List Entry → List ℕ
tape_written tape = four (length tape) ++ flat_map entry_written tape

-- Tapes: the name, how many there are, and the tapes.
abbrev pub written : List (List Entry) → List ℕ
written tapes = name ++ four (length tapes) ++ flat_map tape_written tapes

-- Tapes have a file.
pub record IsWritable (tapes : List (List Entry)) : Type 0 where
  pub few : length tapes ≤ PROCESS_LIMIT
  pub each : (k : ℕ) (tape : List Entry) → slice_get tapes k ≡ Some tape → IsTapeWritable tape
