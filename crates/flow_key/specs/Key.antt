-- The key of a text: what a pattern finds in it.
use Rattle.std.specs.Prelude.{ℕ, List, Option, Some, None, length, nat_lt, option_map, if◌then◌else◌}
use Rattle.regex.specs.Patterns.{find}
use Rattle.regex.specs.Replace.{group_bytes}
use Rattle.flow_pattern.specs.Pattern.{expression, group_names}

-- The group of a pattern that holds the key, by its number: the first one, where the pattern has a group, and else the whole match, which counts as the group 0 and has a name among the others.
abbrev pub key_group : List ℕ → ℕ
key_group pattern = if nat_lt 1 (length (group_names pattern)) then 1 else 0

-- What a pattern finds in a text: what that group holds in the first match. Where nothing matches it finds nothing; a group that took no part in the match holds the empty text.
abbrev pub found_key : List ℕ → List ℕ → Option (List ℕ)
found_key pattern text = option_map (λ match. group_bytes text match (key_group pattern)) (find (expression pattern) text 0)

-- The key of a text, if it has one: what the pattern finds. Without a pattern the key is the text itself.
abbrev pub key_of : Option (List ℕ) → List ℕ → Option (List ℕ)
key_of None text = Some text
key_of (Some pattern) text = found_key pattern text
