-- Patterns: which texts are patterns, what one reads as, whether it matches in a text, and a text with its matches replaced. (What a
-- regular expression means is what the crate regex says of it.)
use Rattle.flow_limits.specs.declared.TheConstants.{PATTERN_LIMIT}
use Rattle.std.specs.Prelude.{ℕ, ◌≤◌, Bool, false, List, [], length, Option, Some, None, IsSomeAnd, is_some, chars}
use Rattle.std.specs.Str.{IsUtf8}
use Rattle.regex.specs.Patterns.{Re, empty, Config, default_config, find, find_all}
use Rattle.regex.specs.Replace.{replaced_by}
use Rattle.regex_syntax.specs.Brackets.{Nested}
use Rattle.regex_syntax.specs.Grammar.{Names, read}

-- The options of a regular expression over bytes, as the crate regex has them where none are set.
abbrev pub pattern_options : Config
pattern_options = record default_config { utf8 = false }

-- What the grammar of regular expressions reads in a text: an expression, with the names of its groups.
abbrev pub reading : List ℕ → Option (Nested Re × Names)
reading text = read pattern_options (chars text)

-- A text is a pattern where it is no longer than PATTERN_LIMIT, it is UTF-8, and the grammar reads it, nested no deeper than its limit.
abbrev pub IsPattern : List ℕ → Type 0
IsPattern text = (length text ≤ PATTERN_LIMIT) × IsUtf8 text × IsSomeAnd (reading text) (λ found. found.0.depth ≤ pattern_options.nest_limit)

-- The expression that was read, where there is one.
abbrev pub expression_in : Option (Nested Re × Names) → Re
expression_in None = empty
expression_in (Some found) = found.0.value

-- The expression that a pattern reads as.
abbrev pub expression : List ℕ → Re
expression pattern = expression_in (reading pattern)

-- The names of the groups that were read, by their numbers. The group 0 is the whole match.
abbrev pub names_in : Option (Nested Re × Names) → Names
names_in None = []
names_in (Some found) = found.1

-- The names of a pattern's groups, where they have some, by their numbers.
abbrev pub group_names : List ℕ → Names
group_names pattern = names_in (reading pattern)

-- Whether the pattern matches somewhere in the text.
abbrev pub matches : List ℕ → List ℕ → Bool
matches pattern text = is_some (find (expression pattern) text 0)

-- The text with each match of the pattern, from the left and without overlaps, replaced by these bytes as they are.
abbrev pub replaced : List ℕ → List ℕ → List ℕ → List ℕ
replaced pattern with text = replaced_by (λ match. with) text 0 (find_all (expression pattern) text)

-- A pattern with what takes the place of its matches.
pub record Replacement : Type 0 where
  pub pattern : List ℕ
  pub with : List ℕ
