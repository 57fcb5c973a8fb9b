-- Texts of which each match of a pattern has one within it.
use Rattle.std.specs.Prelude.{ℕ, ◌≤◌, List, Option, IsSome, IsSomeAnd}
use Rattle.regex.specs.Patterns.{Re, find}
use Rattle.regex_literal.specs.Find.{AnyOccursAt, AreBytes}

-- Where the expression is found in a text from a place on, one of the needles stands there or behind it.
abbrev pub AreNeeded : Re → List (List ℕ) → Type 0
AreNeeded re needles = (text : List ℕ) → AreBytes text → (start : ℕ) → IsSome (find re text start) → (k : ℕ) × (start ≤ k) × AnyOccursAt text needles k

-- Needles are known, and none of them stands at this place of the text or behind it.
abbrev pub StandNowhere : Option (List (List ℕ)) → List ℕ → ℕ → Type 0
StandNowhere known text start = IsSomeAnd known (λ needles. (k : ℕ) → start ≤ k → ¬ AnyOccursAt text needles k)
