-- Templates: texts that are filled in with what the groups of a match hold. How a group is called in one, and what a text writes at a match, is
-- what the crate regex says of replacements; here nothing may be called that isn't there.
use Rattle.std.specs.Prelude.{◌≡◌, ℕ, ◌+◌, ◌==◌, List, [], ◌∷◌, length, drop, flat_map, nat_lt, slice_index, Option, Some, None, option_map, if◌then◌else◌}
use Rattle.regex.specs.Patterns.{Match, find_all}
use Rattle.regex.specs.Replace.{group_bytes, replaced_by}
use Rattle.regex.specs.Templates.{name_at, group_called, written_after}
use Rattle.regex_syntax.specs.Grammar.{Names}
use Rattle.flow_pattern.specs.Pattern.{Replacement, expression, group_names}
use Rattle.flow_pattern.specs.declared.template.Part.{Part}
use Rattle.flow_pattern.specs.declared.template.Part.TheVariants.{Byte, Group}

-- A group by its number, where there is one with these names of groups.
abbrev pub known : Names → Option ℕ → Option ℕ
known names None = None
known names (Some n) = if nat_lt n (length names) then Some n else None

-- The group that is called so, by its number or by its name, where there is one.
abbrev pub called : Names → List ℕ → Option ℕ
called names name = known names (group_called names name)

-- What stands behind a dollar calls a group, as a part that so many bytes spell with the dollar.
abbrev pub calls : Names → Option (List ℕ × ℕ) → Option (Part × ℕ)
calls names None = None
calls names (Some name) = option_map (λ n. (Group n, name.1 + 1)) (called names name.0)

-- The part that a dollar begins, by what stands behind it: two dollars stand for one, and else a group has to be called.
abbrev pub dollar_part : Names → List ℕ → Option (Part × ℕ)
dollar_part names rest = if slice_index rest 0 == 36 then Some (Byte 36, 2) else calls names (name_at rest)

-- The part with which a text begins, and how many bytes spell it: each byte but a dollar stands for itself.
abbrev pub first_part : Names → List ℕ → Option (Part × ℕ)
first_part names [] = None
first_part names (byte ∷ rest) = if byte == 36 then dollar_part names rest else Some (Byte byte, 1)

-- The text spells these parts, one behind the other.
abbrev pub Spells : Names → List ℕ → List Part → Type 0
Spells names text [] = text ≡ []
Spells names text (part ∷ parts) = (n : ℕ) × (first_part names text ≡ Some (part, n)) × Spells names (drop n text) parts

-- A text is a template for a pattern where it spells parts: each dollar in it is one of two, or calls a group that the pattern has.
abbrev pub IsTemplate : List ℕ → List ℕ → Type 0
IsTemplate pattern text = (parts : List Part) × Spells (group_names pattern) text parts

-- What a part writes, by what each group holds.
abbrev pub part_text : (ℕ → List ℕ) → Part → List ℕ
part_text held (Byte byte) = byte ∷ []
part_text held (Group n) = held n

-- What parts write, one behind the other.
abbrev pub parts_text : (ℕ → List ℕ) → List Part → List ℕ
parts_text held parts = flat_map (part_text held) parts

-- What a template writes at a match in a text: what the groups hold, in the place of the calls.
abbrev pub filled : Replacement → List ℕ → Match → List ℕ
filled by text match = written_after (group_names by.pattern) (group_bytes text match) by.with 0

-- The text with each match of the pattern, from the left and without overlaps, replaced by what the template writes there.
abbrev pub refilled : Replacement → List ℕ → List ℕ
refilled by text = replaced_by (filled by text) text 0 (find_all (expression by.pattern) text)

-- The template for the whole match: a dollar and a nought.
abbrev pub whole_match : List ℕ
whole_match = 36 ∷ 48 ∷ []
