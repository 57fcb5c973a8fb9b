-- How many tapes a file has, where so many are wanted.
use Rattle.std.specs.Prelude.{◌≡◌, ◌≢◌, ℕ, List, ◌++◌, length, Result, Ok}
use Rattle.flow_own.specs.declared.tape.Entry.{Entry}
use Rattle.flow_own.specs.Reading.{◌>>=◌}
use Rattle.flow_tape.specs.declared.fault.CountStop.{CountStop}
use Rattle.flow_tape.specs.declared.fault.CountStop.TheVariants.{Fault, Count, NoMemory}
use Rattle.flow_tape.specs.Files.{name, four}
use Rattle.flow_tape.specs.Faults.{IsFileOf, IsFault}
use Rattle.flow_tape.specs.Reading.{file_at}

-- Bytes begin as the file of so many tapes does: with the name of the format, and behind that with this number.
pub record BeginsFileOf (number : ℕ) (bytes : List ℕ) : Type 0 where
  pub rest : List ℕ
  pub is : bytes ≡ name ++ (four number ++ rest)

-- These bytes are the file of so many tapes.
pub record IsFileOfSoMany (number : ℕ) (bytes : List ℕ) : Type 0 where
  pub tapes : List (List Entry)
  pub file : IsFileOf tapes bytes
  pub number_is : number ≡ length tapes

-- Why bytes don't give as many tapes as are wanted: they have this fault; or they are the file of another number of tapes; or there was no memory, which is
-- asked for only where they begin as the file of the wanted number does.
abbrev pub StopsCounting : ℕ → List ℕ → CountStop → Type 0
StopsCounting wanted bytes (Fault fault) = IsFault bytes fault.place
StopsCounting wanted bytes (Count number) = IsFileOfSoMany number bytes × (number ≢ wanted)
StopsCounting wanted bytes NoMemory = BeginsFileOf wanted bytes

-- How many tapes are read, where the bytes end with them.
abbrev pub number_in : List ℕ → Result ℕ ℕ
number_in bytes = file_at bytes >>= λ tapes. Ok (length tapes)
