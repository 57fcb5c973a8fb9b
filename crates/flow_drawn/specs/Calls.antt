-- The words of a call that draws, and the texts for words of the network at its end.
use Rattle.std.specs.Prelude.{ℕ, zero, suc, List, [], take, Option, Some, None, Bool, get_or, is_some, if◌then◌else◌}
use Rattle.flow_given.specs.Calls.{is_given_word}
use Rattle.flow_draw.specs.Words.{asked_of}

-- The words ask for a drawing.
abbrev pub asks_drawing : List (List ℕ) → Bool
asks_drawing words = is_some (asked_of words)

-- How many of the first n words ask for a drawing, where those behind them, to the n-th, give texts: as many as can be.
abbrev pub drawn_within : List (List ℕ) → ℕ → Option ℕ
drawn_within words zero = None
drawn_within words (suc n) = if asks_drawing (take (suc n) words) then Some (suc n) else (if is_given_word (get_or words n []) then drawn_within words n else None)
