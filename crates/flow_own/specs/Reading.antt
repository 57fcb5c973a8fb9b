-- Reading entries from left to right. What is read is a value, and the bytes behind it; or it is told how many bytes there are from the fault on.
use Rattle.flow_limits.specs.declared.TheConstants.{HANDS_LIMIT, TEXT_LIMIT}
use Rattle.std.specs.Prelude.{◌≡◌, ◌==◌, ℕ, zero, suc, List, [], ◌∷◌, length, take, drop, Option, Some, None, Result, Ok, Err, nat_lt, if◌then◌else◌}
use Rattle.std.specs.Int.{Width, w8, w16, w32, w64, byte_len, from_le_bytes}
use Rattle.flow_packet.specs.declared.packet.Kind.{Kind}
use Rattle.flow_packet.specs.declared.packet.Kind.TheVariants as kinds
use Rattle.flow_component.specs.declared.Answer.{Answer}
use Rattle.flow_component.specs.declared.Answer.TheVariants as answers
use Rattle.flow_component.specs.declared.Wish.TheVariants as wishes
use Rattle.flow_component.specs.declared.OwnFail.TheVariants as owns
use Rattle.flow_own.specs.declared.tape.End.{End}
use Rattle.flow_own.specs.declared.tape.End.TheVariants as ends
use Rattle.flow_own.specs.declared.tape.Entry.{Entry}
use Rattle.flow_own.specs.Acts.{Made}
use Rattle.flow_own.specs.declared.unread.Unread.{Unread}
use Rattle.flow_own.specs.declared.unread.Unread.TheVariants as stops

-- What is read of some bytes.
abbrev pub Read : Type 0 → Type 0
Read A = Result (A × List ℕ) ℕ

infixl 10 ◌>>=◌
abbrev pub ◌>>=◌ : {A B : Type 0} → Result A ℕ → (A → Result B ℕ) → Result B ℕ
(Ok x) >>= f = f x
(Err left) >>= f = Err left

-- A function stopped where reading does, or there was no memory.
abbrev pub Stops : {Y : Type 0} → Unread → Result Y ℕ → Type 0
Stops (stops.Fault left) read = read ≡ Err left
Stops stops.NoMemory read = Unit {0}

-- A function gave what is read, as this view has it.
abbrev pub Gives : {X Y : Type 0} → (X → Y) → Result X Unread → Result Y ℕ → Type 0
Gives view (Ok x) read = read ≡ Ok (view x)
Gives view (Err stop) read = Stops stop read

-- A function that takes no memory stopped: that is where reading does.
abbrev pub StopsThere : {Y : Type 0} → Unread → Result Y ℕ → Type 0
StopsThere (stops.Fault left) read = read ≡ Err left
StopsThere stops.NoMemory read = ⊥

-- A function that takes no memory gave what is read, as this view has it.
abbrev pub Tells : {X Y : Type 0} → (X → Y) → Result X Unread → Result Y ℕ → Type 0
Tells view (Ok x) read = read ≡ Ok (view x)
Tells view (Err stop) read = StopsThere stop read

-- A number of this width that is no more than the most.
abbrev pub number_at : Width → ℕ → List ℕ → Read ℕ
number_at width most bytes =
    if nat_lt (length bytes) (byte_len width) then Err 0 else (if nat_lt most (from_le_bytes width (take (byte_len width) bytes)) then Err (length bytes) else Ok (from_le_bytes width (take (byte_len width) bytes), drop (byte_len width) bytes))

-- So many bytes of text.
abbrev pub text_at : ℕ → List ℕ → Read (List ℕ)
text_at size bytes = if nat_lt (length bytes) size then Err 0 else Ok (take size bytes, drop size bytes)

-- So many of the same sort, one after another.
unfoldable pub many_at : {A : Type 0} → (List ℕ → Read A) → ℕ → List ℕ → Read (List A)
many_at read zero bytes = Ok ([], bytes)
many_at read (suc count) bytes = do
  first ← read bytes
  others ← many_at read count first.1
  Ok (first.0 ∷ others.0, others.1)

abbrev pub id_at : List ℕ → Read ℕ
id_at bytes = number_at w64 18446744073709551615 bytes

abbrev pub any_at : List ℕ → Read ℕ
any_at bytes = number_at w32 4294967295 bytes

-- The answer of this case.
abbrev pub answer_by : ℕ → List ℕ → Read Answer
answer_by case bytes =
    if case == 0 then Ok (answers.Start, bytes) else (
    if case == 1 then (id_at bytes >>= λ n. Ok (answers.Got n.0, n.1)) else (
    if case == 2 then Ok (answers.End, bytes) else (
    if case == 3 then Ok (answers.Sent, bytes) else (
    any_at bytes >>= λ n. Ok (answers.Level n.0, n.1)))))

unfoldable pub answer_at : List ℕ → Read Answer
answer_at bytes = do
  case ← number_at w8 4 bytes
  answer_by case.0 case.1

-- The kind of this case, where case 0 is that nothing was made.
abbrev pub kind_by : ℕ → Kind
kind_by case = if case == 1 then kinds.Normal else (if case == 2 then kinds.Open else kinds.Close)

-- A packet of this kind that was made: the length of its text, and the text.
unfoldable pub packet_at : Kind → List ℕ → Read (Option Made)
packet_at kind bytes = do
  size ← number_at w32 TEXT_LIMIT bytes
  text ← text_at size.0 size.1
  Ok (Some (kind, text.0), text.1)

-- What was made.
unfoldable pub made_at : List ℕ → Read (Option Made)
made_at bytes = do
  case ← number_at w8 3 bytes
  if case.0 == 0 then Ok (None, case.1) else packet_at (kind_by case.0) case.1

-- What was dropped.
unfoldable pub dropped_at : List ℕ → Read (List ℕ)
dropped_at bytes = do
  count ← number_at w16 HANDS_LIMIT bytes
  many_at id_at count.0 count.1

-- The port and the packet of a wish to send.
unfoldable pub send_at : List ℕ → Read End
send_at bytes = do
  port ← any_at bytes
  id ← id_at port.1
  Ok (ends.Wish (wishes.Send (record { 0 = port.0 }) id.0), id.1)

-- The end of one of the cases that have a number of four bytes and no more.
abbrev pub end_with : ℕ → ℕ → End
end_with case n =
    if case == 0 then ends.Wish (wishes.Receive (record { 0 = n })) else (
    if case == 2 then ends.Wish (wishes.Level (record { 0 = n })) else (
    if case == 4 then ends.Fail (owns.Own n) else ends.Fail (owns.Port n)))

-- The end of this case.
abbrev pub end_by : ℕ → List ℕ → Read End
end_by case bytes =
    if case == 1 then send_at bytes else (
    if case == 3 then Ok (ends.Wish wishes.Deactivate, bytes) else (
    if case == 5 then (id_at bytes >>= λ n. Ok (ends.Fail (owns.Packet n.0), n.1)) else (
    if case == 7 then Ok (ends.Fail owns.TapeLimit, bytes) else (
    any_at bytes >>= λ n. Ok (end_with case n.0, n.1)))))

unfoldable pub end_at : List ℕ → Read End
end_at bytes = do
  case ← number_at w8 7 bytes
  end_by case.0 case.1

-- An entry.
unfoldable pub entry_at : List ℕ → Read Entry
entry_at bytes = do
  answer ← answer_at bytes
  made ← made_at answer.1
  dropped ← dropped_at made.1
  end ← end_at dropped.1
  Ok (record { answer = answer.0; made = made.0; dropped = dropped.0; end = end.0 }, end.1)

-- The bytes behind what is read.
abbrev pub behind : {A : Type 0} → Read A → Result (List ℕ) ℕ
behind (Ok x) = Ok x.1
behind (Err left) = Err left
