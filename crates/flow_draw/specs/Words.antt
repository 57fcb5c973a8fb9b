-- Which words ask for a drawing, and for which one. How words are told apart is clap's.
use Rattle.std.specs.Prelude.{Bool, true, List, [], ◌∷◌, None, map, codes, String, string_bytes, if◌then◌else◌}
use Rattle.std.specs.declared.alloc.Global.{Global}
use Rattle.std.specs.declared.option.Option.{Option}
use Rattle.std.specs.Option.{option_map}
use Rattle.clap.specs.Walk.{Text, Row, Rule, is_empty}
use Rattle.clap.specs.Simple.{App, new_app, on_top, matches_of}
use Rattle.clap.specs.Faults.{fault_of}
use Rattle.flow_words.specs.declared.argument.Shape.TheVariants.{Name, Flag, Valued}
use Rattle.flow_words.specs.Arguments.{rule_by}
use Rattle.flow_words.specs.Words.{is_given, row_named, value_by}
use Rattle.flow_drawing.specs.declared.quote.Form.{Form}
use Rattle.flow_drawing.specs.declared.quote.Form.TheVariants.{Mermaid, Dot}
use Rattle.flow_draw.specs.declared.words.DrawCommand.{DrawCommand}

-- A drawing that is asked for: its language; whether subnets are to be folded; the name of the network file; and that of a journal's file, where the state is to be
-- drawn to which the journal leads.
pub record Asked : Type 0 where
  pub form : Form
  pub fold : Bool
  pub net : Text
  pub journal : Option Text

-- What may stand in a line, each at most once: the network file's name, the flag for DOT, the option with the name of a journal's file, and the flag for subnets that are
-- folded.
abbrev pub rules : List Rule
rules = rule_by Name (codes "NETFILE") ∷ rule_by Flag (codes "dot") ∷ rule_by Valued (codes "journal") ∷ rule_by Flag (codes "fold") ∷ []

-- The command line of the program. Its words begin after the program's name, and no flag asks for help.
abbrev pub line_app : App
line_app = on_top (λ top. record top { no_binary_name = true; disable_help_flag = true; rules = rules }) (new_app (codes "draw"))

-- Mermaid, unless DOT is asked for.
abbrev pub form_by : Bool → Form
form_by dot = if dot then Dot else Mermaid

-- A drawing of the network of this file.
abbrev pub asked_with : Bool → Bool → Option Text → Text → Asked
asked_with dot fold journal net = record { form = form_by dot; fold = fold; net = net; journal = journal }

-- What the rows of a line ask for. They have to have a network file.
abbrev pub asked_in : List Row → Option Asked
asked_in rows = option_map
    (asked_with (is_given (row_named (codes "dot") rows)) (is_given (row_named (codes "fold") rows)) (value_by Valued (row_named (codes "journal") rows)))
    (value_by Name (row_named (codes "NETFILE") rows))

-- Words in which clap finds a fault ask for nothing, and all others for what their rows do.
abbrev pub asked_of : List Text → Option Asked
asked_of words = if is_empty (fault_of line_app words) then asked_in (matches_of line_app words) else None

-- What a command asks for, with the texts of its names.
abbrev pub asked_by : DrawCommand → Asked
asked_by command = record { form = command.form; fold = command.fold; net = command.net.now; journal = option_map (λ s. s.now) command.journal }

-- What the words of a call ask for.
abbrev pub asked_in_call : List (String Global) → Option Asked
asked_in_call words = asked_of (map string_bytes words)
