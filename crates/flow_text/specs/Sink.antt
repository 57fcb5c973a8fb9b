-- The sink in memory, and exactly which of its writes fail.
use Rattle.std.specs.Prelude.{◌≡◌, ◌⊎◌, ◌++◌, ℕ, ◌-◌, ◌<◌, min, false, List, [], ◌∷◌, length, take, Some, None, MatchResult, Contains}
use Rattle.std.specs.declared.result.Result.{Result}
use Rattle.flow_text.specs.Edge.{Outside, Logged}
use Rattle.flow_text.specs.Mem.{counted}

-- a sink in memory
pub record Sunk : Type 0 where
  pub bytes : List ℕ
  -- at most so many bytes are taken in a write, and at most so many in all
  pub piece : ℕ
  pub room : ℕ
  -- the writes so far, and the numbers of those that fail
  pub writes : ℕ
  pub write_fails : List ℕ
  pub write_faults : ℕ

-- a sink that took nothing
abbrev pub new_sink : ℕ → ℕ → List ℕ → Sunk
new_sink piece room write_fails = record { bytes = []; piece = piece; room = room; writes = 0; write_fails = write_fails; write_faults = 0 }

-- the one file of a sink, which has no name and took these bytes
abbrev pub only_file : List ℕ → List Logged
only_file bytes = record { name = []; bytes = bytes; ended = false } ∷ []

-- what the sink tells as a thing outside
abbrev pub outside_of : Sunk → Outside
outside_of s = record {
  open_name = None;
  left = None;
  read_faults = 0;
  last_read_fault = None;
  created_name = None;
  taken = Some s.bytes;
  write_faults = s.write_faults;
  last_write_fault = None;
  files = None;
  opened = [];
  created = only_file s.bytes;
}

-- a write fails exactly where its number is listed, or where a piece that isn't empty finds no room
abbrev pub WriteFails : Sunk → List ℕ → Type 0
WriteFails s bytes = Contains s.write_fails (counted s.writes) ⊎ ((0 < length bytes) × (s.room - length s.bytes ≡ 0))

-- a write that doesn't fail takes as many bytes as piece and room allow
abbrev pub MemWrites : {E : Type 0} → Sunk → Sunk → Result ℕ E → List ℕ → Type 0
MemWrites old new r bytes = MatchResult r
    (λ n. (WriteFails old bytes → ⊥) × (n ≡ min (min (length bytes) old.piece) (old.room - length old.bytes))
    × (new ≡ record old { writes = counted old.writes; bytes = old.bytes ++ take n bytes }))
    (λ _. WriteFails old bytes × (new ≡ record old { writes = counted old.writes; write_faults = counted old.write_faults }))
