-- What a line part is said to do.
use Rattle.std.specs.Prelude.{ℕ, List, Option, Result}
use Rattle.flow_line.specs.declared.texts.LineStop.{LineStop}

-- What it was before, the text that it was told (none: the end of the input), how it ended, the texts that it put, in order, and what it is now.
abbrev pub Works : Type 0 → Type 1
Works L = L → Option (List ℕ) → Result (Unit {0}) LineStop → List (List ℕ) → L → Type 0
