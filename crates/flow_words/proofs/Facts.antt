-- What clap makes of each argument: the only place where they stand one by one.
use Rattle.std.proofs.Common.{◌≡◌, ◌∙◌, refl, sym, ap, Bool, true, false, ℕ, List, [], ◌∷◌, ◌++◌, Some, None, Option, codes}
use Rattle.std.proofs.lemmas.Slice.Eq.{bytes_eq-Decides}
use Rattle.std.specs.Prelude.{find, map, unwrap_or, if◌then◌else◌}
use Rattle.std.specs.Str.{bytes_eq}
use Rattle.clap.specs.Lexer.{long_of}
use Rattle.clap.specs.Faults.{given_default_fault, repeat_fault, use_fault}
use Rattle.clap.specs.Kinds.{or_else}
use Rattle.clap.specs.Simple.{Shape as Whole, built, filled, with_index}
use Rattle.clap.specs.Walk.{Row, Rule, Text, arg_by_id, arg_by_index, arg_by_long, is_empty, is_multiple, most_values, reading_by, takes_several, takes_values, used, with_values, without}
use Rattle.clap.specs.declared.parser.matches.ValueSource.TheVariants.{CommandLine}
use Rattle.flow_words.specs.declared.argument.Argument.{Argument}
use Rattle.flow_words.specs.declared.argument.Argument.TheVariants.{NetFile, Check, Determinate, Kinds as TheKinds, Journal, Replay, Make, Tapes, Workers, Report, Quiet, Brief, Progress, Help, Version}
use Rattle.flow_words.specs.declared.argument.Shape.{Shape}
use Rattle.flow_words.specs.declared.argument.Shape.TheVariants.{Name, Flag, Valued}
use Rattle.flow_words.specs.Arguments.{arguments, name_of, rule_for, shape_of}
use Rattle.flow_words.specs.Lines.{dashed}
use Rattle.flow_words.specs.Words.{line_app}

-- The command line as clap builds it, and its rules.
abbrev pub top : Whole
top = (built line_app).top

abbrev pub rules : List Rule
rules = top.rules

-- The rule of an argument there. The one name is at place 1.
abbrev pub built_rule : Argument → Rule
built_rule a = with_index 1 (filled (rule_for a))

-- The values that a use hands to clap, and those that clap keeps of it.
abbrev pub raw_values : Shape → Text → List Text
raw_values Name value = value ∷ []
raw_values Flag value = []
raw_values Valued value = value ∷ []

abbrev pub kept_values : Shape → Text → List Text
kept_values Name value = value ∷ []
kept_values Flag value = codes "true" ∷ []
kept_values Valued value = value ∷ []

-- What stands for a use that isn't made.
abbrev pub default_values : Shape → List Text
default_values Name = []
default_values Flag = codes "false" ∷ []
default_values Valued = []

-- A flag or an option is found by its word.
abbrev pub by_word : Shape → Rule → Option Rule
by_word Name rule = None
by_word Flag rule = Some rule
by_word Valued rule = Some rule

abbrev pub is_name : Shape → Bool
is_name Name = true
is_name Flag = false
is_name Valued = false

abbrev pub is_valued : Shape → Bool
is_valued Name = true
is_valued Flag = false
is_valued Valued = true

-- How many values a use has.
abbrev pub value_count : Shape → ℕ
value_count Name = 1
value_count Flag = 0
value_count Valued = 1

-- The argument of this name.
abbrev pub argument_named : Text → Option Argument
argument_named name = find (λ a. bytes_eq (name_of a) name) arguments

pub record Facts (a : Argument) : Type 0 where
  pub named : argument_named (name_of a) ≡ Some a
  pub apart : bytes_eq (name_of a) (codes "NETFILE") ≡ is_name (shape_of a)
  pub same : bytes_eq (name_of a) (name_of a) ≡ true
  pub id : (built_rule a).id ≡ name_of a
  pub by_id : arg_by_id rules (name_of a) ≡ Some (built_rule a)
  pub by_long : arg_by_long rules (name_of a) ≡ by_word (shape_of a) (built_rule a)
  pub takes : takes_values (built_rule a) ≡ is_valued (shape_of a)
  pub most : most_values (built_rule a) ≡ value_count (shape_of a)
  pub defaults : (built_rule a).defaults ≡ default_values (shape_of a)
  pub sound_default : (if is_empty (built_rule a).defaults then [] else given_default_fault (built_rule a) (built_rule a).defaults) ≡ []
  pub long : long_of (dashed (name_of a)) ≡ Some (name_of a, None)
  pub joined : (value : Text) → long_of (dashed (name_of a) ++ codes "=" ++ value) ≡ Some (name_of a, Some value)
  pub no_end : bytes_eq (dashed (name_of a)) (45 ∷ 45 ∷ []) ≡ false
  pub no_end_joined : (value : Text) → bytes_eq (dashed (name_of a) ++ codes "=" ++ value) (45 ∷ 45 ∷ []) ≡ false
  pub uses : (value : Text) (rows : List Row) → used (built_rule a) (raw_values (shape_of a) value) rows
      ≡ with_values (name_of a) (reading_by (built_rule a)) CommandLine (kept_values (shape_of a) value) (without (name_of a) rows)
  pub faults : (value : Text) (rows : List Row) → use_fault false (built_rule a) (raw_values (shape_of a) value) rows ≡ or_else (repeat_fault false (name_of a) rows) []

-- An argument more is a line more here.
pub facts : (a : Argument) → Facts a
facts NetFile = record { named = refl; apart = refl; same = refl; id = refl; by_id = refl; by_long = refl; takes = refl; most = refl; defaults = refl; sound_default = refl; long = refl; joined = λ v. refl; no_end = refl; no_end_joined = λ v. refl; uses = λ v r. refl; faults = λ v r. refl }
facts Check = record { named = refl; apart = refl; same = refl; id = refl; by_id = refl; by_long = refl; takes = refl; most = refl; defaults = refl; sound_default = refl; long = refl; joined = λ v. refl; no_end = refl; no_end_joined = λ v. refl; uses = λ v r. refl; faults = λ v r. refl }
facts Determinate = record { named = refl; apart = refl; same = refl; id = refl; by_id = refl; by_long = refl; takes = refl; most = refl; defaults = refl; sound_default = refl; long = refl; joined = λ v. refl; no_end = refl; no_end_joined = λ v. refl; uses = λ v r. refl; faults = λ v r. refl }
facts TheKinds = record { named = refl; apart = refl; same = refl; id = refl; by_id = refl; by_long = refl; takes = refl; most = refl; defaults = refl; sound_default = refl; long = refl; joined = λ v. refl; no_end = refl; no_end_joined = λ v. refl; uses = λ v r. refl; faults = λ v r. refl }
facts Journal = record { named = refl; apart = refl; same = refl; id = refl; by_id = refl; by_long = refl; takes = refl; most = refl; defaults = refl; sound_default = refl; long = refl; joined = λ v. refl; no_end = refl; no_end_joined = λ v. refl; uses = λ v r. refl; faults = λ v r. refl }
facts Replay = record { named = refl; apart = refl; same = refl; id = refl; by_id = refl; by_long = refl; takes = refl; most = refl; defaults = refl; sound_default = refl; long = refl; joined = λ v. refl; no_end = refl; no_end_joined = λ v. refl; uses = λ v r. refl; faults = λ v r. refl }
facts Make = record { named = refl; apart = refl; same = refl; id = refl; by_id = refl; by_long = refl; takes = refl; most = refl; defaults = refl; sound_default = refl; long = refl; joined = λ v. refl; no_end = refl; no_end_joined = λ v. refl; uses = λ v r. refl; faults = λ v r. refl }
facts Tapes = record { named = refl; apart = refl; same = refl; id = refl; by_id = refl; by_long = refl; takes = refl; most = refl; defaults = refl; sound_default = refl; long = refl; joined = λ v. refl; no_end = refl; no_end_joined = λ v. refl; uses = λ v r. refl; faults = λ v r. refl }
facts Workers = record { named = refl; apart = refl; same = refl; id = refl; by_id = refl; by_long = refl; takes = refl; most = refl; defaults = refl; sound_default = refl; long = refl; joined = λ v. refl; no_end = refl; no_end_joined = λ v. refl; uses = λ v r. refl; faults = λ v r. refl }
facts Report = record { named = refl; apart = refl; same = refl; id = refl; by_id = refl; by_long = refl; takes = refl; most = refl; defaults = refl; sound_default = refl; long = refl; joined = λ v. refl; no_end = refl; no_end_joined = λ v. refl; uses = λ v r. refl; faults = λ v r. refl }
facts Quiet = record { named = refl; apart = refl; same = refl; id = refl; by_id = refl; by_long = refl; takes = refl; most = refl; defaults = refl; sound_default = refl; long = refl; joined = λ v. refl; no_end = refl; no_end_joined = λ v. refl; uses = λ v r. refl; faults = λ v r. refl }
facts Brief = record { named = refl; apart = refl; same = refl; id = refl; by_id = refl; by_long = refl; takes = refl; most = refl; defaults = refl; sound_default = refl; long = refl; joined = λ v. refl; no_end = refl; no_end_joined = λ v. refl; uses = λ v r. refl; faults = λ v r. refl }
facts Progress = record { named = refl; apart = refl; same = refl; id = refl; by_id = refl; by_long = refl; takes = refl; most = refl; defaults = refl; sound_default = refl; long = refl; joined = λ v. refl; no_end = refl; no_end_joined = λ v. refl; uses = λ v r. refl; faults = λ v r. refl }
facts Help = record { named = refl; apart = refl; same = refl; id = refl; by_id = refl; by_long = refl; takes = refl; most = refl; defaults = refl; sound_default = refl; long = refl; joined = λ v. refl; no_end = refl; no_end_joined = λ v. refl; uses = λ v r. refl; faults = λ v r. refl }
facts Version = record { named = refl; apart = refl; same = refl; id = refl; by_id = refl; by_long = refl; takes = refl; most = refl; defaults = refl; sound_default = refl; long = refl; joined = λ v. refl; no_end = refl; no_end_joined = λ v. refl; uses = λ v r. refl; faults = λ v r. refl }

-- No two arguments have one name.
pub only : (a b : Argument) → name_of a ≡ name_of b → a ≡ b
only a b is =
    let found : Some a ≡ Some b = sym (facts a).named ∙ ap argument_named is ∙ (facts b).named in
    ap (λ (o : Option Argument). unwrap_or o a) found

-- Only the network file's name is a name.
pub is_net_file : (a : Argument) → shape_of a ≡ Name → a ≡ NetFile
is_net_file a is = only a NetFile ((bytes_eq-Decides (name_of a) (codes "NETFILE")).0 ((facts a).apart ∙ ap is_name is))

-- The rules are those of the arguments, and the first place is the network file's.
pub rules-are : rules ≡ map built_rule arguments
rules-are = refl

pub first_place : arg_by_index rules 1 ≡ Some (built_rule NetFile)
first_place = refl

pub one_value : takes_several (built_rule NetFile) ≡ false
one_value = refl

pub one_name : is_multiple (built_rule NetFile) ≡ false
one_name = refl
