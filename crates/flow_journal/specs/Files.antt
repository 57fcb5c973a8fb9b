-- Journal files. (The format is this project's own.)
use Rattle.std.specs.Prelude.{◌≡◌, ◌≢◌, ◌⊎◌, ℕ, ◌+◌, ◌*◌, ◌<◌, ◌≤◌, ◌^◌, List, [], ◌++◌, All, length, take, drop, slice_get, codes}
use Rattle.std.specs.Int.{w16, w32, to_le_bytes, from_le_bytes}
use Rattle.std.specs.List.{flat_map}
use Rattle.flow_limits.specs.declared.TheConstants.{RUN_LIMIT}
use Rattle.flow_journal.specs.declared.file.TheConstants.{HEADER_LENGTH}
use Rattle.flow_journal.specs.declared.fault.JournalStop.{JournalStop}
use Rattle.flow_journal.specs.declared.fault.JournalStop.TheVariants.{Fault, NoMemory}
use Rattle.flow_journal.specs.declared.merge.Journal.{Journal}

-- The name of the format, with which each file begins.
abbrev pub name : List ℕ
name = codes "FLOWJ001"

-- Numbers of two bytes, one after another, the least byte first.
abbrev pub numbers_written : List ℕ → List ℕ
numbers_written numbers = flat_map (to_le_bytes w16) numbers

-- The header of a file: the name; how many turns and how many seen numbers there are, in four bytes each, the least byte first.
abbrev pub header_written : ℕ → ℕ → List ℕ
header_written turns seen = name ++ to_le_bytes w32 turns ++ to_le_bytes w32 seen

-- How many bytes follow a header that tells these numbers.
abbrev pub body_length : ℕ → ℕ → ℕ
body_length turns seen = turns + 2 * seen

-- What a journal is written as: the header; the processes of the turns, in a byte each; the seen numbers.
abbrev pub written : Journal → List ℕ
written journal = header_written (length journal.turns) (length journal.seen) ++ journal.turns ++ numbers_written journal.seen

-- A journal has a file where it has no more turns than a run may have, and no more seen numbers than turns.
pub record IsWritable (journal : Journal) : Type 0 where
  pub turns : length journal.turns ≤ RUN_LIMIT
  pub seen : length journal.seen ≤ length journal.turns

-- These bytes are the file of the journal, whose seen numbers fit into two bytes each.
pub record IsFileOf (journal : Journal) (bytes : List ℕ) : Type 0 where
  pub writable : IsWritable journal
  pub numbers : All (λ n. n < 2 ^ 16) journal.seen
  pub is : bytes ≡ written journal

-- The number in the four bytes from a place on.
abbrev pub number_at : List ℕ → ℕ → ℕ
number_at bytes place = from_le_bytes w32 (drop place bytes)

-- The file begins with the name.
abbrev pub BeginsWithName : List ℕ → Type 0
BeginsWithName bytes = take (length name) bytes ≡ name

-- It tells a number of turns that a run may have.
pub record TellsTurns (bytes : List ℕ) : Type 0 where
  pub begins : BeginsWithName bytes
  pub whole : 12 ≤ length bytes
  pub few : number_at bytes 8 ≤ RUN_LIMIT

-- It tells a number of seen numbers too, that are no more than the turns.
pub record HasHeader (bytes : List ℕ) : Type 0 where
  pub turns : TellsTurns bytes
  pub whole : 16 ≤ length bytes
  pub few : number_at bytes 12 ≤ number_at bytes 8

-- How long a file with this header is.
abbrev pub whole_length : List ℕ → ℕ
whole_length bytes = 16 + number_at bytes 8 + 2 * number_at bytes 12

-- At this place the file doesn't go on as the name does, or ends; before it the two are one.
pub record StraysFromName (bytes : List ℕ) (place : ℕ) : Type 0 where
  pub within : place < length name
  pub before : take place bytes ≡ take place name
  pub other : slice_get bytes place ≢ slice_get name place

-- The number of turns is more than a run may have.
pub record TellsManyTurns (bytes : List ℕ) : Type 0 where
  pub begins : BeginsWithName bytes
  pub whole : 12 ≤ length bytes
  pub many : RUN_LIMIT < number_at bytes 8

-- There are more seen numbers than turns.
pub record TellsManySeen (bytes : List ℕ) : Type 0 where
  pub turns : TellsTurns bytes
  pub whole : 16 ≤ length bytes
  pub many : number_at bytes 8 < number_at bytes 12

-- All that is there can stand there, and the file ends before it is whole: in the number of turns, in that of seen numbers, or behind both.
abbrev pub EndsEarly : List ℕ → Type 0
EndsEarly bytes = (BeginsWithName bytes × (length bytes < 12)) ⊎ ((TellsTurns bytes × (length bytes < 16)) ⊎ (HasHeader bytes × (length bytes < whole_length bytes)))

-- The first byte of the file that can't stand there is at this place, or the file ends there too early. A number is judged as a whole, and where it is too
-- large its first byte can't stand there.
pub data IsFault (bytes : List ℕ) (place : ℕ) : Type 0 where
  strays : StraysFromName bytes place → IsFault bytes place
  many_turns : TellsManyTurns bytes → place ≡ 8 → IsFault bytes place
  many_seen : TellsManySeen bytes → place ≡ 12 → IsFault bytes place
  ends : EndsEarly bytes → place ≡ length bytes → IsFault bytes place
  goes_on : HasHeader bytes → whole_length bytes < length bytes → place ≡ whole_length bytes → IsFault bytes place

-- The fault of each file that begins with these bytes is at this place, whatever follows them. Where they are fewer than a header they are the whole file.
abbrev pub IsHeaderFault : List ℕ → ℕ → Type 0
IsHeaderFault front place = (rest : List ℕ) → (length front < HEADER_LENGTH → rest ≡ []) → IsFault (front ++ rest) place

-- Why reading a journal stopped: the file has this fault; or there was no memory.
abbrev pub StopsReading : List ℕ → JournalStop → Type 0
StopsReading bytes (Fault fault) = IsFault bytes fault.place
StopsReading bytes NoMemory = Unit {0}

-- A file is that of one journal.
abbrev pub HasOneJournal : Type 0
HasOneJournal = (bytes : List ℕ) (j k : Journal) → IsFileOf j bytes → IsFileOf k bytes → (j.turns ≡ k.turns) × (j.seen ≡ k.seen)

-- The file of a journal has no fault.
abbrev pub HasJournalOrFault : Type 0
HasJournalOrFault = (bytes : List ℕ) (journal : Journal) (place : ℕ) → IsFileOf journal bytes → IsFault bytes place → ⊥

-- A file has one fault at most.
abbrev pub HasOneFault : Type 0
HasOneFault = (bytes : List ℕ) (p q : ℕ) → IsFault bytes p → IsFault bytes q → p ≡ q
