-- What may stand in a command line, and how.
use Rattle.std.specs.Prelude.{ℕ, List, [], ◌∷◌, Some, None, codes}
use Rattle.std.specs.declared.option.Option.{Option}
use Rattle.clap.specs.Walk.{Text, Rule}
use Rattle.clap.specs.Simple.{new_rule}
use Rattle.clap.specs.declared.builder.action.ArgAction.TheVariants.{SetTrue}
use Rattle.flow_words.specs.declared.argument.Argument.{Argument}
use Rattle.flow_words.specs.declared.argument.Argument.TheVariants.{NetFile, Check, Determinate, Kinds, Journal, Replay, Make, Tapes, Workers, Report, Quiet, Brief, Progress, Help, Version}
use Rattle.flow_words.specs.declared.argument.Shape.{Shape}
use Rattle.flow_words.specs.declared.argument.Shape.TheVariants.{Name, Flag, Valued}

-- What may stand in a line, each at most once: the network file's name; the flags of a check, of a judge and of the kinds; the options with the name of a run's
-- journal file, with that of a replay's, with the number of a make, with the name of the file of the tapes, with the number of workers, and with the name of the
-- file of the report; the flags of a report that is left out and of one in brief, and of a run that tells how far it is; and those of the help and of the version.
abbrev pub arguments : List Argument
arguments = NetFile ∷ Check ∷ Determinate ∷ Kinds ∷ Journal ∷ Replay ∷ Make ∷ Tapes ∷ Workers ∷ Report ∷ Quiet ∷ Brief ∷ Progress ∷ Help ∷ Version ∷ []

-- The name of each. No other has it.
abbrev pub name_of : Argument → Text
name_of NetFile = codes "NETFILE"
name_of Check = codes "check"
name_of Determinate = codes "determinate"
name_of Kinds = codes "kinds"
name_of Journal = codes "journal"
name_of Replay = codes "replay"
name_of Make = codes "make"
name_of Tapes = codes "tapes"
name_of Workers = codes "workers"
name_of Report = codes "report"
name_of Quiet = codes "quiet"
name_of Brief = codes "brief"
name_of Progress = codes "progress"
name_of Help = codes "help"
name_of Version = codes "version"

-- How each stands in a line: as a name, as a flag without a value, or as an option with one.
abbrev pub shape_of : Argument → Shape
shape_of NetFile = Name
shape_of Check = Flag
shape_of Determinate = Flag
shape_of Kinds = Flag
shape_of Journal = Valued
shape_of Replay = Valued
shape_of Make = Valued
shape_of Tapes = Valued
shape_of Workers = Valued
shape_of Report = Valued
shape_of Quiet = Flag
shape_of Brief = Flag
shape_of Progress = Flag
shape_of Help = Flag
shape_of Version = Flag

-- The letter that stands for one behind a single `-`, where it has one: `h` for the help.
abbrev pub letter_of : Argument → Option ℕ
letter_of Help = Some 104
letter_of _ = None

-- The rule of clap for an argument of this shape and name.
abbrev pub rule_by : Shape → Text → Rule
rule_by Name name = new_rule name
rule_by Flag name = record (new_rule name) { long = Some name; action = Some SetTrue }
rule_by Valued name = record (new_rule name) { long = Some name }

-- The rule of clap for an argument.
abbrev pub rule_for : Argument → Rule
rule_for a = record (rule_by (shape_of a) (name_of a)) { short = letter_of a }
