-- Which words ask for the help, and what it says.
use Rattle.std.specs.Prelude.{ℕ, Bool, List, [], ◌∷◌, Some, ◌&&◌, codes}
use Rattle.clap.specs.Walk.{Text, Rule, is_empty}
use Rattle.clap.specs.Simple.{App, matches_of, with_rule}
use Rattle.clap.specs.Faults.{fault_of}
use Rattle.flow_words.specs.declared.argument.Shape.TheVariants.{Flag}
use Rattle.flow_words.specs.Arguments.{rule_by}
use Rattle.flow_words.specs.Words.{is_given, row_named}
use Rattle.flow_draw.specs.Words.{line_app}

-- The flag for the help, for which the letter `h` stands too.
abbrev pub help_flag : Rule
help_flag = record (rule_by Flag (codes "help")) { short = Some 104 }

-- A command line of the program that may have this flag too.
abbrev pub help_app : App
help_app = with_rule line_app help_flag

-- The words ask for the help: clap finds no fault in them as such a line, and they have the flag. Whatever stands beside it, it is asked for.
abbrev pub asks_help : List Text → Bool
asks_help words = is_empty (fault_of help_app words) && is_given (row_named (codes "help") (matches_of help_app words))

-- The lines of the help: what can be asked for, how it goes together, the statuses, and where to read on.
unfoldable pub help_lines : List (List ℕ)
help_lines = codes "draw NETFILE [WORD=TEXT ..]  draws the network of the file for Mermaid"
    ∷ codes "draw --dot NETFILE           draws it for Graphviz"
    ∷ codes "draw --fold NETFILE          draws each subnet as one box"
    ∷ codes "draw --journal FILE NETFILE  draws the state to which the journal in FILE leads"
    ∷ codes "draw --help, -h              prints this page"
    ∷ codes "draw -- NETFILE              is draw NETFILE for a name that begins with -"
    ∷ []
    ∷ codes "--dot, --fold and --journal FILE may stand in one line. Texts for the words of a"
    ∷ codes "network of version 3 stand behind it; flow --texts NETFILE lists the words."
    ∷ []
    ∷ codes "Status: 0 drawn, 2 words refused, 3 network refused, 6 read fault,"
    ∷ codes "7 write fault, 8 no memory, 9 too long, 10 journal refused, 12 tapes refused."
    ∷ codes "Read on in docs/DRAWING.md, docs/NETWORKS.md and docs/FORMATS.md."
    ∷ []
