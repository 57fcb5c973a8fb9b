-- Tape files field by field: what each field may hold.
use Rattle.flow_limits.specs.declared.TheConstants.{HANDS_LIMIT, PROCESS_LIMIT, TAPE_LIMIT, TEXT_LIMIT}
use Rattle.std.specs.Prelude.{◌≡◌, ℕ, ◌<◌, ◌≤◌, List, [], ◌∷◌, ◌++◌, length, map, take, Option, Some, None}
use Rattle.std.specs.Int.{Width, w8, w16, w32, w64, byte_len, to_le_bytes, from_le_bytes}
use Rattle.std.specs.List.{flat_map, AllByRecursion}
use Rattle.flow_component.specs.declared.Answer.{Answer}
use Rattle.flow_component.specs.declared.Answer.TheVariants as answers
use Rattle.flow_component.specs.declared.Wish.TheVariants as wishes
use Rattle.flow_component.specs.declared.OwnFail.TheVariants as owns
use Rattle.flow_own.specs.declared.tape.End.{End}
use Rattle.flow_own.specs.declared.tape.End.TheVariants as ends
use Rattle.flow_own.specs.declared.tape.Entry.{Entry}
use Rattle.flow_own.specs.Acts.{Made}
use Rattle.flow_tape.specs.Files.{name, kind_byte}

-- A field of a file, which is taken as a whole: a letter of the name; a number of some bytes, the least first, with the most that it may be; a text; and
-- behind all of them the end of the file.
pub data Field : Type 0 where
  Letter : (byte : ℕ) → Field
  Number : (width : Width) (most number : ℕ) → Field
  Text : (bytes : List ℕ) → Field
  Last : Field

-- The bytes of a field.
abbrev pub bytes_of : Field → List ℕ
bytes_of (Letter byte) = byte ∷ []
bytes_of (Number width most number) = to_le_bytes width number
bytes_of (Text bytes) = bytes
bytes_of Last = []

-- The bytes of fields, one after another.
abbrev pub spelled : List Field → List ℕ
spelled fields = flat_map bytes_of fields

-- The field holds what it may: its number isn't too large, and its text is of bytes.
abbrev pub IsWhole : Field → Type 0
IsWhole (Letter byte) = Unit {0}
IsWhole (Number width most number) = number ≤ most
IsWhole (Text bytes) = AllByRecursion (λ b. b < 256) bytes
IsWhole Last = Unit {0}

-- What follows may stand where the field stands, if it is as long: the same letter; any number that isn't too large; any text; and at the end nothing.
abbrev pub MayStand : Field → List ℕ → Type 0
MayStand (Letter byte) bytes = take 1 bytes ≡ byte ∷ []
MayStand (Number width most number) bytes = from_le_bytes width (take (byte_len width) bytes) ≤ most
MayStand (Text text) bytes = Unit {0}
MayStand Last bytes = bytes ≡ []

-- A byte that tells a case, where this is the last case.
abbrev pub case : ℕ → ℕ → Field
case most number = Number w8 most number

-- Any number of four bytes.
abbrev pub any_four : ℕ → Field
any_four number = Number w32 4294967295 number

-- Any number of eight bytes.
abbrev pub any_eight : ℕ → Field
any_eight number = Number w64 18446744073709551615 number

abbrev pub answer_fields : Answer → List Field
answer_fields answers.Start = case 4 0 ∷ []
answer_fields (answers.Got id) = case 4 1 ∷ any_eight id ∷ []
answer_fields answers.End = case 4 2 ∷ []
answer_fields answers.Sent = case 4 3 ∷ []
answer_fields (answers.Level level) = case 4 4 ∷ any_four level ∷ []

abbrev pub made_fields : Option Made → List Field
made_fields None = case 3 0 ∷ []
made_fields (Some made) = case 3 (kind_byte made.0) ∷ Number w32 TEXT_LIMIT (length made.1) ∷ Text made.1 ∷ []

abbrev pub dropped_fields : List ℕ → List Field
dropped_fields ids = Number w16 HANDS_LIMIT (length ids) ∷ map any_eight ids

-- A failure of a player has no fields.
abbrev pub end_fields : End → List Field
end_fields (ends.Wish (wishes.Receive port)) = case 7 0 ∷ any_four port.0 ∷ []
end_fields (ends.Wish (wishes.Send port id)) = case 7 1 ∷ any_four port.0 ∷ any_eight id ∷ []
end_fields (ends.Wish (wishes.Level port)) = case 7 2 ∷ any_four port.0 ∷ []
end_fields (ends.Wish wishes.Deactivate) = case 7 3 ∷ []
end_fields (ends.Fail (owns.Own number)) = case 7 4 ∷ any_four number ∷ []
end_fields (ends.Fail (owns.Packet id)) = case 7 5 ∷ any_eight id ∷ []
end_fields (ends.Fail (owns.Port port)) = case 7 6 ∷ any_four port ∷ []
end_fields (ends.Fail owns.TapeLimit) = case 7 7 ∷ []
end_fields (ends.Fail owns.Differs) = []

abbrev pub entry_fields : Entry → List Field
entry_fields entry = answer_fields entry.answer ++ (made_fields entry.made ++ (dropped_fields entry.dropped ++ end_fields entry.end))

abbrev pub tape_fields : List Entry → List Field
tape_fields tape = Number w32 TAPE_LIMIT (length tape) ∷ flat_map entry_fields tape

-- The fields of a file, without its end.
abbrev pub inner_fields : List (List Entry) → List Field
inner_fields tapes = map Letter name ++ Number w32 PROCESS_LIMIT (length tapes) ∷ flat_map tape_fields tapes

-- The fields of a file.
abbrev pub fields_of : List (List Entry) → List Field
fields_of tapes = inner_fields tapes ++ Last ∷ []
