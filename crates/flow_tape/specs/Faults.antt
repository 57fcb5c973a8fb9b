-- The file of tapes, and the first place where bytes stop being one.
use Rattle.std.specs.Prelude.{◌≡◌, ℕ, ◌<◌, ◌≤◌, List, ◌∷◌, ◌++◌, length}
use Rattle.std.specs.List.{AllByRecursion}
use Rattle.flow_own.specs.declared.tape.Entry.{Entry}
use Rattle.flow_tape.specs.declared.fault.TapeStop.{TapeStop}
use Rattle.flow_tape.specs.declared.fault.TapeStop.TheVariants.{Fault, NoMemory}
use Rattle.flow_tape.specs.Files.{IsWritable, written}
use Rattle.flow_tape.specs.Fields.{Field, IsWhole, MayStand, bytes_of, spelled, fields_of}

-- These bytes are the file of the tapes, whose numbers fit into their fields and whose texts are of bytes.
pub record IsFileOf (tapes : List (List Entry)) (bytes : List ℕ) : Type 0 where
  pub writable : IsWritable tapes
  pub whole : AllByRecursion IsWhole (fields_of tapes)
  pub is : bytes ≡ written tapes

-- The field isn't there, behind what stands before it: the bytes end before the field does, and the place is their end; or they go on otherwise, and the
-- place is the first byte of the field.
pub data Misses (field : Field) (before bytes : List ℕ) (place : ℕ) : Type 0 where
  ends : length bytes < length (bytes_of field) → place ≡ length (before ++ bytes) → Misses field before bytes place
  differs : length (bytes_of field) ≤ length bytes → ¬ MayStand field bytes → place ≡ length before → Misses field before bytes place

-- The first byte that can't stand there is at this place, or the bytes end there too early. Up to some field they are the file of some tapes, and that
-- field isn't there.
pub record IsFault (bytes : List ℕ) (place : ℕ) : Type 0 where
  pub tapes : List (List Entry)
  pub writable : IsWritable tapes
  pub whole : AllByRecursion IsWhole (fields_of tapes)
  pub before : List Field
  pub field : Field
  pub after : List Field
  pub fields : fields_of tapes ≡ before ++ field ∷ after
  pub rest : List ℕ
  pub begins : bytes ≡ spelled before ++ rest
  pub misses : Misses field (spelled before) rest place

-- Why reading tapes stopped: the bytes have this fault; or there was no memory.
abbrev pub StopsReading : List ℕ → TapeStop → Type 0
StopsReading bytes (Fault fault) = IsFault bytes fault.place
StopsReading bytes NoMemory = Unit {0}

-- The fields of a file are the file, cut up.
abbrev pub AreCutUp : Type 0
AreCutUp = (tapes : List (List Entry)) → spelled (fields_of tapes) ≡ written tapes

-- Bytes are the file of one list of tapes.
abbrev pub HasOneList : Type 0
HasOneList = (bytes : List ℕ) (s t : List (List Entry)) → IsFileOf s bytes → IsFileOf t bytes → s ≡ t

-- The file of tapes has no fault.
abbrev pub HasTapesOrFault : Type 0
HasTapesOrFault = (bytes : List ℕ) (tapes : List (List Entry)) (place : ℕ) → IsFileOf tapes bytes → IsFault bytes place → ⊥

-- Bytes have one fault at most.
abbrev pub HasOneFault : Type 0
HasOneFault = (bytes : List ℕ) (p q : ℕ) → IsFault bytes p → IsFault bytes q → p ≡ q

-- Bytes with a fault that isn't their end begin no file.
abbrev pub BeginsNoFile : Type 0
BeginsNoFile = (bytes more : List ℕ) (tapes : List (List Entry)) (place : ℕ) → IsFault bytes place → place < length bytes → IsFileOf tapes (bytes ++ more) → ⊥
