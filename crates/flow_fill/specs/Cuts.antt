-- What is cut off a line, as values.
use Rattle.std.specs.Prelude.{ℕ, List, Option, option_map}
use Rattle.std.specs.Borrow.{Bor}

-- A text that was cut off, and what is left, as lists.
abbrev pub pairs : Option (List ℕ × Bor (List ℕ)) → Option (List ℕ × List ℕ)
pairs found = option_map (λ cut. (cut.0, cut.1.now)) found
