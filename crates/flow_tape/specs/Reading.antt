-- Reading a tape file from left to right, as its entries are read.
use Rattle.flow_limits.specs.declared.TheConstants.{PROCESS_LIMIT, TAPE_LIMIT}
use Rattle.std.specs.Prelude.{◌==◌, ℕ, List, [], ◌∷◌, length, Result, Ok, Err, if◌then◌else◌}
use Rattle.std.specs.Int.{w32}
use Rattle.flow_own.specs.declared.tape.Entry.{Entry}
use Rattle.flow_own.specs.Reading.{Read, ◌>>=◌, number_at, many_at, entry_at}
use Rattle.flow_tape.specs.Files.{name}

-- A letter of the name.
abbrev pub letter_at : ℕ → List ℕ → Read (Unit {0})
letter_at letter [] = Err 0
letter_at letter (byte ∷ bytes) = if byte == letter then Ok (tt, bytes) else Err (length (byte ∷ bytes))

unfoldable pub letters_at : List ℕ → List ℕ → Read (Unit {0})
letters_at [] bytes = Ok (tt, bytes)
letters_at (letter ∷ letters) bytes = do
  first ← letter_at letter bytes
  letters_at letters first.1

-- A tape.
unfoldable pub tape_at : List ℕ → Read (List Entry)
tape_at bytes = do
  count ← number_at w32 TAPE_LIMIT bytes
  many_at entry_at count.0 count.1

-- Tapes, with the name before them; more may follow.
unfoldable pub tapes_at : List ℕ → Read (List (List Entry))
tapes_at bytes = do
  begin ← letters_at name bytes
  count ← number_at w32 PROCESS_LIMIT begin.1
  many_at tape_at count.0 count.1

-- A file of tapes, with which the bytes end.
unfoldable pub file_at : List ℕ → Result (List (List Entry)) ℕ
file_at bytes = do
  tapes ← tapes_at bytes
  if length tapes.1 == 0 then Ok tapes.0 else Err (length tapes.1)
