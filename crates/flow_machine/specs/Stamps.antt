-- Stamps that the clock gave after the turns were made.
use Rattle.std.specs.Prelude.{ℕ, ◌-◌, List, ◌++◌, length, take}
use Rattle.std.specs.List.{range_with_len}

-- These stamps, of which the last so many are now the numbers from the first one on.
abbrev pub restamped : ℕ → ℕ → List ℕ → List ℕ
restamped count first stamps = take (length stamps - count) stamps ++ range_with_len first count
