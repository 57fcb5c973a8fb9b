-- Which words are a command line, and what each asks for.
use Rattle.std.specs.Prelude.{◌≤◌, ⊤, ℕ, Bool, true, false, List, [], Some, None, find, is_some, map, slice_get, codes, if◌then◌else◌}
use Rattle.std.specs.declared.option.Option.{Option}
use Rattle.std.specs.Option.{option_map, option_and_then}
use Rattle.std.specs.Str.{bytes_eq}
use Rattle.clap.specs.Walk.{Text, Row, is_empty}
use Rattle.clap.specs.Simple.{App, new_app, on_top, matches_of}
use Rattle.clap.specs.Faults.{fault_of}
use Rattle.clap.specs.declared.parser.matches.ValueSource.{ValueSource}
use Rattle.clap.specs.declared.parser.matches.ValueSource.TheVariants.{CommandLine}
use Rattle.flow_limits.specs.declared.TheConstants.{NUMBER_LIMIT, WORKER_LIMIT}
use Rattle.flow_words.specs.Numbers.{spelled_number, spelled_workers}
use Rattle.flow_words.specs.declared.asked.Command.{Command}
use Rattle.flow_words.specs.declared.asked.Page.{Page as PageName}
use Rattle.flow_words.specs.declared.asked.Page.TheVariants as pages
use Rattle.flow_words.specs.declared.asked.ReportCommand.{ReportCommand}
use Rattle.flow_words.specs.declared.asked.RunCommand.{RunCommand}
use Rattle.flow_words.specs.declared.asked.Command.TheVariants as commands
use Rattle.flow_words.specs.declared.argument.Argument.{Argument}
use Rattle.flow_words.specs.declared.argument.Argument.TheVariants as arguments
use Rattle.flow_words.specs.declared.argument.Shape.{Shape}
use Rattle.flow_words.specs.declared.argument.Shape.TheVariants.{Name, Flag, Valued}
use Rattle.flow_words.specs.declared.form.Form.{Form}
use Rattle.flow_words.specs.declared.form.Form.TheVariants as forms
use Rattle.flow_words.specs.Arguments.{arguments as all_arguments, name_of, rule_for, shape_of}
use Rattle.flow_words.specs.Forms.{fits, forms as all_forms}

-- How the report of a run is to be told: in this file, where one is named; whether nothing is said of a run that finished with nothing left; and whether it is
-- said in brief.
pub record AskedReport : Type 0 where
  pub file : Option Text
  pub quiet : Bool
  pub brief : Bool

-- A run of the network file of this name, with the name of a file for its journal and of one for the tapes of its own components, where there are such, with the
-- number of its workers, and with how its report is to be told; a check of it; whether its plan is determinate; a replay of it, with the name of the file that has
-- the journal, and of the one that has the tapes, where there is one; a make from a number, with the number of its workers; or a page: that of the standard kinds,
-- the help, or the version.
pub data Asked : Type 0 where
  Run : Text → Option Text → Option Text → ℕ → AskedReport → Asked
  Check : Text → Asked
  Judge : Text → Asked
  Replay : Text → Text → Option Text → Asked
  Make : ℕ → ℕ → Asked
  Page : PageName → Asked

-- A run that is asked for: the name of its network file, those of the file for its journal and of the file for the tapes of its own components, where there
-- are such, the number of its workers, and how its report is to be told.
pub record AskedRun : Type 0 where
  pub net : Text
  pub journal : Option Text
  pub tapes : Option Text
  pub workers : ℕ
  pub report : AskedReport

-- What is asked for then.
abbrev pub run_of : AskedRun → Asked
run_of run = Run run.net run.journal run.tapes run.workers run.report

-- How a command says that a report is to be told, with the text of its name.
abbrev pub report_by : ReportCommand → AskedReport
report_by report = record { file = option_map (λ s. s.now) report.file; quiet = report.quiet; brief = report.brief }

-- The run that a command asks for, with the texts of its names.
abbrev pub run_by : RunCommand → AskedRun
run_by run = record {
  net = run.net.now;
  journal = option_map (λ s. s.now) run.journal;
  tapes = option_map (λ s. s.now) run.tapes;
  workers = run.workers;
  report = report_by run.report;
}

-- What a command asks for, with the texts of its names.
abbrev pub asked_by : Command → Asked
asked_by (commands.Run run) = run_of (run_by run)
asked_by (commands.Check net) = Check net.now
asked_by (commands.Judge net) = Judge net.now
asked_by (commands.Replay net journal tapes) = Replay net.now journal.now (option_map (λ s. s.now) tapes)
asked_by (commands.Make number workers) = Make number workers
asked_by (commands.Page page) = Page page

-- The number of a make is from 1 to the greatest from which something is made, and there are no more workers than may be.
abbrev pub IsWithinBounds : Asked → Type 0
IsWithinBounds (Run net journal tapes workers report) = workers ≤ WORKER_LIMIT
IsWithinBounds (Make number workers) = (1 ≤ number) × (number ≤ NUMBER_LIMIT) × (workers ≤ WORKER_LIMIT)
IsWithinBounds (Check net) = ⊤
IsWithinBounds (Judge net) = ⊤
IsWithinBounds (Replay net journal tapes) = ⊤
IsWithinBounds (Page page) = ⊤

-- How many workers are asked for: those of a run or a make. The others have none.
abbrev pub workers_asked : Asked → ℕ
workers_asked (Run net journal tapes workers report) = workers
workers_asked (Make number workers) = workers
workers_asked (Check net) = 0
workers_asked (Judge net) = 0
workers_asked (Replay net journal tapes) = 0
workers_asked (Page page) = 0

-- A command line that has these arguments and no others; its words begin after the program's name, and clap adds no flag of its own that asks for help.
abbrev pub app_with : List Argument → App
app_with given = on_top (λ top. record top { no_binary_name = true; disable_help_flag = true; rules = map rule_for given }) (new_app (codes "flow"))

-- The command line of this program.
abbrev pub line_app : App
line_app = app_with all_arguments

-- The value came from the words, and from no default.
abbrev pub is_from_words : Option ValueSource → Bool
is_from_words (Some CommandLine) = true
is_from_words _ = false

-- The row of this name.
abbrev pub row_named : Text → List Row → Option Row
row_named name rows = find (λ r. bytes_eq r.id name) rows

-- The words gave the flag of this row.
abbrev pub is_given : Option Row → Bool
is_given row = is_from_words (option_and_then (λ r. r.source) row)

-- What a row gives an argument of this shape: a flag that the words gave has the empty text, and all else its first value.
abbrev pub value_by : Shape → Option Row → Option Text
value_by Name row = option_and_then (λ r. slice_get r.values 0) row
value_by Flag row = if is_given row then Some [] else None
value_by Valued row = option_and_then (λ r. slice_get r.values 0) row

-- The value that the rows of a line give an argument, if they give it.
abbrev pub value_in : List Row → Argument → Option Text
value_in rows a = value_by (shape_of a) (row_named (name_of a) rows)

-- The number of workers that is given, and 0 where none is.
abbrev pub given_workers : Option Text → Option ℕ
given_workers None = Some 0
given_workers (Some word) = spelled_workers word

-- A make from the number that this word spells, with these workers.
abbrev pub make_by : Text → ℕ → Option Asked
make_by word workers = option_map (λ number. Make number workers) (spelled_number word)

-- The name of the file for a report. `-` is none: the report stays where it is printed.
abbrev pub report_file_in : Option Text → Option Text
report_file_in None = None
report_file_in (Some name) = if bytes_eq name (codes "-") then None else Some name

-- How a report is to be told, by the values of a line.
abbrev pub report_in : (Argument → Option Text) → AskedReport
report_in values = record { file = report_file_in (values arguments.Report); quiet = is_some (values arguments.Quiet); brief = is_some (values arguments.Brief) }

-- A run of this network file by so many workers, with all else that the values of a line give.
abbrev pub run_in : (Argument → Option Text) → Text → ℕ → Asked
run_in values net workers = Run net (values arguments.Journal) (values arguments.Tapes) workers (report_in values)

-- What a line of this form asks for by its values.
abbrev pub asked_as : Form → (Argument → Option Text) → Option Asked
asked_as forms.Run values = option_and_then (λ net. option_map (run_in values net) (given_workers (values arguments.Workers))) (values arguments.NetFile)
asked_as forms.Check values = option_map Check (values arguments.NetFile)
asked_as forms.Judge values = option_map Judge (values arguments.NetFile)
asked_as forms.Kinds values = Some (Page pages.Kinds)
asked_as forms.Replay values = option_and_then (λ net. option_map (λ journal. Replay net journal (values arguments.Tapes)) (values arguments.Replay)) (values arguments.NetFile)
asked_as forms.Make values = option_and_then (λ word. option_and_then (make_by word) (given_workers (values arguments.Workers))) (values arguments.Make)
asked_as forms.Help values = Some (Page pages.Help)
asked_as forms.Version values = Some (Page pages.Version)

-- What a line asks for that gives its arguments these values. A line of none of the forms asks for nothing.
abbrev pub form_of : (Argument → Option Text) → Option Asked
form_of values = option_and_then (λ form. asked_as form values) (find (λ form. fits form values) all_forms)

-- Words in which clap finds a fault ask for nothing, and all others for what their rows do.
abbrev pub command_of : List Text → Option Asked
command_of words = if is_empty (fault_of line_app words) then form_of (value_in (matches_of line_app words)) else None

-- A line of these values is to tell how far its run is. What it asks for is the same without.
abbrev pub tells_progress : (Argument → Option Text) → Bool
tells_progress values = is_some (values arguments.Progress)

-- Words in which clap finds no fault are to tell how far their run is where their rows do.
abbrev pub progress_of : List Text → Bool
progress_of words = if is_empty (fault_of line_app words) then tells_progress (value_in (matches_of line_app words)) else false
