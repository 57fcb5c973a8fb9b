-- The lines of a text, one after another.
use Rattle.std.specs.Prelude.{◌≡◌, ℕ, suc, ◌<◌, ◌≤◌, ◌==◌, List, [], ◌∷◌, length, drop, slice_range, if◌then◌else◌}
use Rattle.std.specs.Str.Lines.{lines}

-- How many bytes stand before the first line feed.
abbrev pub line_length : List ℕ → ℕ
line_length [] = 0
line_length (b ∷ bs) = if b == 10 then 0 else suc (line_length bs)

-- The lines from a place on are the piece from there to end, and then those from next on.
pub record IsNextLine (bytes : List ℕ) (from end next : ℕ) : Type 0 where
  pub order : from ≤ end
  pub further : from < next
  pub within : end ≤ length bytes
  pub in_file : next ≤ length bytes
  pub first : lines (drop from bytes) ≡ slice_range bytes from end ∷ lines (drop next bytes)
