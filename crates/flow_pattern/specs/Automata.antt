-- The automaton by which a pattern is searched.
use Rattle.std.specs.Prelude.{◌≡◌, ℕ, List}
use Rattle.regex.specs.Patterns.{SameCaptures}
use Rattle.regex_dfa.specs.declared.dfa.Dfa.{Dfa}
use Rattle.regex_meta.specs.Programs.{pattern_of}
use Rattle.regex_meta.specs.declared.program.Program.{Program}
use Rattle.flow_pattern.specs.Pattern.{IsPattern, expression}

-- The text is a pattern, and the automaton is that of a program that searches for what the pattern means.
pub record Serves (dfa : Dfa) (pattern : List ℕ) : Type 0 where
  pub is_pattern : IsPattern pattern
  pub program : Program
  pub is_its : program.dfa ≡ dfa
  pub same : SameCaptures (pattern_of program) (expression pattern)
