-- The templates that write a key at a match.
use Rattle.std.specs.Prelude.{ℕ, List, [], ◌∷◌, length, nat_lt, if◌then◌else◌}
use Rattle.flow_pattern.specs.Pattern.{group_names}
use Rattle.flow_pattern.specs.Template.{whole_match}

-- The template for the first group: a dollar and a one.
abbrev pub first_group : List ℕ
first_group = 36 ∷ 49 ∷ []

-- The template for the key: the first group, where the pattern has one, and else the whole match.
abbrev pub key_template : List ℕ → List ℕ
key_template pattern = if nat_lt 1 (length (group_names pattern)) then first_group else whole_match
