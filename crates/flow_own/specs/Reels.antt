-- Tapes that are kept as the bytes of their entries.
use Rattle.std.specs.Prelude.{◌≡◌, ◌-◌, ℕ, ◌<◌, ◌≤◌, ◌^◌, List, [], length, drop, Option, Some, None, Ok, Err}
use Rattle.flow_own.specs.declared.tape.Entry.{Entry}
use Rattle.flow_own.specs.Reading.{Read, ◌>>=◌, behind, many_at, entry_at}

-- What was read, without the bytes behind it; nothing where reading stops.
abbrev pub read_list : Read (List Entry) → List Entry
read_list (Ok x) = x.0
read_list (Err left) = []

-- The entries with which these bytes begin, so many.
abbrev pub entries_at : ℕ → List ℕ → List Entry
entries_at count bytes = read_list (many_at entry_at count bytes)

-- The entry behind so many others.
abbrev pub entry_after : ℕ → List ℕ → Read Entry
entry_after count bytes = behind (many_at entry_at count bytes) >>= entry_at

-- Reading the entries has come to a place among them and in the bytes: the further ones are read from there on, and they end where all do.
pub record HasCome (count size : ℕ) (bytes : List ℕ) (place at : ℕ) : Type 0 where
  pub there : place ≤ count
  pub within : at ≤ length bytes
  pub further : many_at entry_at (count - place) (drop at bytes) ≡ Ok (drop place (entries_at count bytes), drop size bytes)

-- So many entries are read from the front of these bytes, of which they take so many.
pub record IsReel (count size : ℕ) (bytes : List ℕ) : Type 0 where
  pub few : count < 2 ^ 32
  pub within : size ≤ length bytes
  pub reads : many_at entry_at count bytes ≡ Ok (entries_at count bytes, drop size bytes)

-- The entries that were read from a file, if some were.
abbrev pub reeled : Option (List Entry) → List Entry
reeled None = []
reeled (Some entries) = entries
