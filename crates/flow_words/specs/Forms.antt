-- The forms of a command line: which arguments a line of each has.
use Rattle.std.specs.Prelude.{Bool, true, not, List, [], ◌∷◌, is_some}
use Rattle.std.specs.declared.option.Option.{Option}
use Rattle.std.specs.List.{list_all}
use Rattle.clap.specs.Walk.{Text}
use Rattle.flow_words.specs.declared.argument.Argument.{Argument}
use Rattle.flow_words.specs.declared.argument.Argument.TheVariants as arguments
use Rattle.flow_words.specs.declared.form.Form.{Form}
use Rattle.flow_words.specs.declared.form.Form.TheVariants.{Run, Check, Judge, Kinds, Replay, Make, Help, Version}
use Rattle.flow_words.specs.declared.form.Place.{Place}
use Rattle.flow_words.specs.declared.form.Place.TheVariants.{Needed, Free, Barred}
use Rattle.flow_words.specs.Arguments.{arguments as all_arguments}

-- The forms of a line.
abbrev pub forms : List Form
forms = Run ∷ Check ∷ Judge ∷ Kinds ∷ Replay ∷ Make ∷ Help ∷ Version ∷ []

-- What has to stand in a line of each form, and what may. All else makes it a line of another form, or of none. Whatever stands beside a call for help, it is one;
-- and so is one for the version, but beside a call for help.
abbrev pub place_of : Form → Argument → Place
place_of Run arguments.NetFile = Needed
place_of Run arguments.Journal = Free
place_of Run arguments.Tapes = Free
place_of Run arguments.Workers = Free
place_of Run arguments.Report = Free
place_of Run arguments.Quiet = Free
place_of Run arguments.Brief = Free
place_of Run arguments.Progress = Free
place_of Check arguments.NetFile = Needed
place_of Check arguments.Check = Needed
place_of Judge arguments.NetFile = Needed
place_of Judge arguments.Determinate = Needed
place_of Kinds arguments.Kinds = Needed
place_of Replay arguments.NetFile = Needed
place_of Replay arguments.Replay = Needed
place_of Replay arguments.Tapes = Free
place_of Make arguments.Make = Needed
place_of Make arguments.Workers = Free
place_of Help arguments.Help = Needed
place_of Help _ = Free
place_of Version arguments.Version = Needed
place_of Version arguments.Help = Barred
place_of Version _ = Free
place_of _ _ = Barred

-- The place admits an argument that is given, or that is not.
abbrev pub admits : Place → Bool → Bool
admits Needed given = given
admits Free given = true
admits Barred given = not given

-- A line that gives these values, and no other arguments, is of this form.
abbrev pub fits : Form → (Argument → Option Text) → Bool
fits form values = list_all (λ a. admits (place_of form a) (is_some (values a))) all_arguments
