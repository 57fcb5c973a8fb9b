-- Texts of lines.
use Rattle.std.specs.Prelude.{ℕ, List, [], ◌∷◌, ◌++◌}
use Rattle.std.specs.List.{flat_map}

-- A line with byte 10 at its end.
abbrev pub ended : List ℕ → List ℕ
ended line = line ++ 10 ∷ []

-- The text of these lines, each with byte 10 at its end.
unfoldable pub text_of : List (List ℕ) → List ℕ
text_of lines = flat_map ended lines
