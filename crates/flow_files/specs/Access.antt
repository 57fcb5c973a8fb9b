-- Whose files may be written over, and how.
use Rattle.std.specs.Prelude.{◌≡◌, ◌≢◌, ◌↔◌, ℕ, ◌+◌, ◌*◌, Bool, bit_and, if◌then◌else◌}
use Rattle.flow_files.specs.declared.seen.Seen.{Seen}

-- A folder is sticky and everybody may write to it.
abbrev pub IsShared : Seen → Type 0
IsShared folder = (bit_and folder.mode 0o1000 ≢ 0) × (bit_and folder.mode 0o002 ≢ 0)

-- In a shared folder a file belongs neither to the folder's owner nor to who runs the program.
abbrev pub IsPlanted : Seen → Seen → ℕ → Type 0
IsPlanted folder found runner = IsShared folder × (found.owner ≢ folder.owner) × (found.owner ≢ runner)

-- By its mode the members of a file's group may read it just where everybody may.
abbrev pub IsTold : ℕ → Type 0
IsTold mode = (bit_and mode 0o040 ≢ 0) ↔ (bit_and mode 0o004 ≢ 0)

-- The mode of a file that takes the place of one with this mode: the same where it has its owner and its group, and else without the bits by which a file runs as them,
-- and with no more for the group than for all others.
abbrev pub kept_mode : ℕ → Bool → ℕ
kept_mode mode is_same = bit_and mode (if is_same then 0o7777 else 0o1707 + bit_and mode 0o007 * 8)
