-- Files in memory, by their names.
use Rattle.std.specs.Prelude.{◌≡◌, ℕ, zero, suc, ◌-◌, ◌<◌, ◌≤◌, List, [], ◌∷◌, length, map, Some, None, ⊤, slice_get, String, string_bytes, Vec, vec_capacity, unwrap_or, false}
use Rattle.std.specs.declared.alloc.Global.{Global}
use Rattle.std.specs.declared.option.Option.{Option}
use Rattle.std.specs.Option.{option_map}
use Rattle.std.specs.Str.{bytes_eq}
use Rattle.flow_text.specs.Edge.{Name, Files, replaced}

-- a file: its name, and the bytes that it holds
abbrev pub Named : Type 0
Named = Name × List ℕ

-- a file as the code stores it
abbrev pub Stored : Type 0
Stored = String Global × Vec ℕ Global

-- A stored file as its name and its bytes.
abbrev pub named : Stored → Named
named file = (string_bytes file.0, file.1.items)

-- what each name holds: where a name stands twice, its first file counts
abbrev pub held : List Named → Files
held [] = λ _. None
held (file ∷ rest) = replaced file.0 file.1 (held rest)

-- the first file of this name stands at this place
abbrev pub IsFirst : List Named → Name → ℕ → Type 0
IsFirst [] name place = ⊥
IsFirst (file ∷ rest) name zero = file.0 ≡ name
IsFirst (file ∷ rest) name (suc place) = (bytes_eq name file.0 ≡ false) × IsFirst rest name place

-- the first file of this name is the one at this place
pub record IsPlace (files : List Stored) (name : Name) (place : ℕ) : Type 0 where
  pub within : place < length files
  pub first : IsFirst (map named files) name place

-- what the created file took
abbrev pub taken_of : Option Name → Files → List ℕ
taken_of None files = []
taken_of (Some name) files = unwrap_or (files name) []

-- the files, the one that writes go to, and the bytes that it may hold
pub record Folded : Type 0 where
  pub files : List Named
  pub created : Option Name
  pub room : ℕ

-- how many bytes the created file can still take, none where no file was created
abbrev pub room_left : Option Name → Files → ℕ → ℕ
room_left None files room = 0
room_left (Some name) files room = room - length (taken_of (Some name) files)

-- the name of the file at a place, where one is named
abbrev pub name_of : List Stored → Option ℕ → Option Name
name_of files None = None
name_of files (Some place) = option_map (λ file. string_bytes file.0) (slice_get files place)

-- the file at this place is the first of its name, and has its room
pub record IsWritableAt (files : List Stored) (room place : ℕ) : Type 0 where
  pub file : Stored
  pub stored : slice_get files place ≡ Some file
  pub first : IsFirst (map named files) (string_bytes file.0) place
  pub roomy : room ≤ vec_capacity file.1

-- The file that was created can take a byte more, or none was created.
abbrev pub IsWritable : List Stored → ℕ → Option ℕ → Type 0
IsWritable files room None = ⊤
IsWritable files room (Some place) = IsWritableAt files room place

-- the file at this place has this name and no bytes, and the other names hold what they held
pub record Emptied (old new : List Stored) (name : Name) (room place : ℕ) : Type 0 where
  pub writable : IsWritableAt new room place
  pub named_so : name_of new (Some place) ≡ Some name
  pub held_is : held (map named new) ≡ replaced name [] (held (map named old))
