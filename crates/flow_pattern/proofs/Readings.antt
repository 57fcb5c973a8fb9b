-- What the parser answers, as facts on patterns; and what the automaton answers, as facts on matches.
use Rattle.flow_limits.specs.declared.TheConstants.{PATTERN_LIMIT}
use Rattle.std.proofs.Common.{◌≡◌, ◌≢◌, ℕ, ◌<◌, ◌≤◌, inl, inr, true, false, List, length, All, Option, Some, None, IsSomeAnd, IfSome, is_some, IsSome, option_map, refl, sym, ap, ◌∙◌, subst, arith, get_or}
use Rattle.std.specs.Str.{IsUtf8}
use Rattle.std.proofs.lemmas.List.{get_or_default}
use Rattle.regex.specs.Patterns.{Re, SameCaptures, Reads, Refuses, find}
use Rattle.regex.proofs.ForCallers.{is_match_alike}
use Rattle.regex_hir.specs.Meaning.{meaning}
use Rattle.regex_hir.specs.declared.hir.Hir.{Hir}
use Rattle.regex.proofs.OnLiterals.{IsReadAs, same_refl}
use Rattle.regex_syntax.specs.Same.{SameTree}
use Rattle.regex_syntax.specs.Brackets.{Nested}
use Rattle.regex_syntax.specs.Grammar.{Names, group_count}
use Rattle.regex_syntax.specs.declared.error.ErrorKind.{ErrorKind}
use Rattle.regex_syntax.specs.declared.error.ErrorKind.TheVariants.{OutOfMemory}
use Rattle.regex_dfa.specs.Search.{end_from}
use Rattle.regex_dfa.specs.declared.dfa.Dfa.{Dfa}
use Rattle.regex_vm.specs.Found.{first_match}
use Rattle.regex_meta.specs.Programs.{pattern_of, leftmost}
use Rattle.regex_meta.specs.declared.program.Program.{Program}
use Rattle.regex_meta.proofs.ProgramLemmas.{first_match-leftmost, unanchored_end, leftmost_no_end}
use Rattle.flow_pattern.specs.Pattern.{pattern_options, reading, IsPattern, expression_in, expression, names_in, group_names, matches}

abbrev Found : Type 0
Found = Nested Re × Names

shallow : (o : Option Found) (most : ℕ) (a : Re) (names : Names) → IsSomeAnd o (λ (re, found). (re.depth ≤ most) × SameCaptures a re.value × (names ≡ found) × (group_count a ≤ length names)) → IsSomeAnd o (λ found. found.0.depth ≤ most)
shallow None most a names p = absurd p
shallow (Some found) most a names p = p.0

same_in : (o : Option Found) (most : ℕ) (a : Re) (names : Names) → IsSomeAnd o (λ (re, found). (re.depth ≤ most) × SameCaptures a re.value × (names ≡ found) × (group_count a ≤ length names)) → SameCaptures a (expression_in o)
same_in None most a names p = absurd p
same_in (Some found) most a names p = p.1

-- A text that the parser reads is a pattern.
pub is_pattern : (text : List ℕ) (hir : Hir) (names : Names) → length text ≤ PATTERN_LIMIT → IsUtf8 text → Reads pattern_options text hir names → IsPattern text
unfolding Reads
is_pattern text hir names short utf8 reads = (short, utf8, shallow (reading text) pattern_options.nest_limit (meaning hir) names reads)

named : (o : Option Found) (most : ℕ) (a : Re) (names : Names) → IsSomeAnd o (λ (re, found). (re.depth ≤ most) × SameCaptures a re.value × (names ≡ found) × (group_count a ≤ length names)) → names ≡ names_in o
named None most a names p = absurd p
named (Some found) most a names p = p.2

-- The names that it reads are those of the pattern's groups.
pub names_so : (text : List ℕ) (hir : Hir) (names : Names) → Reads pattern_options text hir names → names ≡ group_names text
unfolding Reads
names_so text hir names reads = named (reading text) pattern_options.nest_limit (meaning hir) names reads

-- What it reads matches as the pattern's expression does.
pub alike : (text : List ℕ) (hir : Hir) (names : Names) → Reads pattern_options text hir names → SameCaptures (meaning hir) (expression text)
unfolding Reads
alike text hir names reads = same_in (reading text) pattern_options.nest_limit (meaning hir) names reads

read_as : (o : Option Found) (most : ℕ) → IsSomeAnd o (λ found. found.0.depth ≤ most) → IsSomeAnd o (λ (found, _). SameTree found.value (expression_in o))
read_as None most p = absurd p
read_as (Some found) most p = same_refl _

-- A pattern is read as its expression.
pub IsPattern-read_as : (text : List ℕ) → IsPattern text → IsReadAs pattern_options text (expression text)
IsPattern-read_as text p = read_as (reading text) pattern_options.nest_limit p.2

deep : (o : Option Found) (most : ℕ) → IfSome o (λ (re, _). most < re.depth) → IsSomeAnd o (λ found. found.0.depth ≤ most) → ⊥
deep None most d p = p
deep (Some found) most d p = omega (arith, d, p)

none-read : (o : Option Found) (most : ℕ) → o ≡ None → IsSomeAnd o (λ found. found.0.depth ≤ most) → ⊥
none-read None most e p = p
none-read (Some found) most e p = absurd cc

-- A text that it refuses, other than for want of memory, is none.
pub no_pattern : (text : List ℕ) (kind : ErrorKind) → kind ≢ OutOfMemory → Refuses pattern_options text kind → IsPattern text → ⊥
unfolding Refuses
no_pattern text kind other (inl memory) pattern = other memory
no_pattern text kind other (inr (inl none)) pattern = none-read (reading text) pattern_options.nest_limit none pattern.2
no_pattern text kind other (inr (inr nested)) pattern = deep (reading text) pattern_options.nest_limit nested.1 pattern.2

module _ (p : Program) (pattern text : List ℕ) (same : SameCaptures (pattern_of p) (expression pattern)) (bytes : (k : ℕ) → get_or text k 0 < 256) where
  small : All (λ b. b < 256) text
  small = λ k d h. rw (get_or_default text k d 0 h) (bytes k)

  -- A search by the program finds a match where the pattern has one.
  pub found_so : is_some (find (pattern_of p) text 0) ≡ matches pattern text
  found_so = is_match_alike same text bytes false 0

  by-end : (o : Option ℕ) → o ≡ option_map (λ m. m.trace.end) (leftmost p text 0) → IsSome o → true ≡ is_some (leftmost p text 0)
  by-end o e s = through (leftmost p text 0) (subst IsSome e s) where
    through : (f : Option Rattle.regex.specs.Patterns.Match) → IsSome (option_map (λ m. m.trace.end) f) → true ≡ is_some f
    through None s = absurd (cc)
    through (Some m) s = refl

  -- The automaton found an end.
  pub ends_so : IsSome (end_from p.dfa.nfa text (length text) p.dfa.nfa.unanchored 0) → true ≡ matches pattern text
  ends_so s = by-end (end_from p.dfa.nfa text (length text) p.dfa.nfa.unanchored 0) (unanchored_end p text small 0 (omega arith)) s ∙ found_so

  -- It found none.
  pub none_so : end_from p.dfa.nfa text (length text) p.dfa.nfa.unanchored 0 ≡ None → false ≡ matches pattern text
  none_so n = sym (ap is_some (leftmost_no_end p text small 0 (omega arith) n)) ∙ found_so

  -- By steps one is found where the pattern has one.
  pub steps_so : (dfa : Dfa) → p.dfa ≡ dfa → is_some (first_match dfa.nfa text (length text) 0 (length text)) ≡ matches pattern text
  steps_so dfa its = subst (λ (d : Dfa). is_some (first_match d.nfa text (length text) 0 (length text)) ≡ matches pattern text) its (ap is_some (first_match-leftmost p text 0) ∙ found_so)
