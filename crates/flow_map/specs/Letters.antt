-- The component that gives the letters of ASCII one case.
use Rattle.std.specs.Char.{to_ascii_uppercase, to_ascii_lowercase}
use Rattle.std.specs.Prelude.{ℕ, List, map, Option, Some, None, if◌then◌else◌}
use Rattle.std.specs.Str.{bytes_eq}
use Rattle.flow_component.specs.Laws.{Rules}
use Rattle.flow_map.specs.Mapping.{Mapping, Mapped, mapper_rules}
use Rattle.flow_map.specs.Plain.{once_mapping, OnceMeaning}
use Rattle.flow_map.specs.declared.letters.LetterCase.{LetterCase}
use Rattle.flow_map.specs.declared.letters.LetterCase.TheVariants.{Lower, Upper}

-- A byte, or the letter of that case where it is one of the other.
abbrev pub in_case : LetterCase → ℕ → ℕ
in_case Lower byte = to_ascii_lowercase byte
in_case Upper byte = to_ascii_uppercase byte

-- The text with its letters in that case.
abbrev pub lettered : LetterCase → List ℕ → List ℕ
lettered case text = map (in_case case) text

-- A text whose letters aren't so is given a new one.
abbrev pub new_letters : LetterCase → List ℕ → Option (List ℕ)
new_letters case text = if bytes_eq (lettered case text) text then None else Some (lettered case text)

-- How a Letters maps.
abbrev pub letters_mapping : Mapping LetterCase
letters_mapping = once_mapping new_letters

-- All that a network knows of it.
abbrev pub letters_rules : Rules (Mapped LetterCase)
letters_rules = mapper_rules letters_mapping

-- A Letters sends what it gets, each Normal packet with its letters in one case.
abbrev pub LettersMeaning : Type 0
LettersMeaning = OnceMeaning new_letters
