-- A make: the network and the input that are made from a number, run, and what is told of it.
use Rattle.std.specs.Prelude.{◌≡◌, ℕ, ◌+◌, List, [], ◌∷◌, ◌++◌, length, IfSome, slice_get, codes}
use Rattle.std.specs.Fmt.{decimal}
use Rattle.std.specs.List.{flat_map}
use Rattle.flow_plan.specs.declared.plan.Process.{Process}
use Rattle.flow_plan.specs.Network.{Network}
use Rattle.flow_parse.specs.declared.value.NetText.{NetText}
use Rattle.flow_make.specs.Lines.{text_of}
use Rattle.flow_make.specs.Network.{network_lines}
use Rattle.flow_journal.specs.declared.merge.Journal.{Journal}
use Rattle.flow_model.specs.States.{State}
use Rattle.flow_cli.specs.Live.{AnyNet}
use Rattle.flow_load.specs.Offers.{AnyKind}
use Rattle.flow_load.specs.Components.{AreComponents, GivesAll, written_by}
use Rattle.flow_offer.specs.Processes.{IsOfferedPlan}
use Rattle.flow_load.specs.Networks.{Holds}
use Rattle.flow_load.specs.Runs.{RunsTo}
use Rattle.flow_cli.specs.Leaves.{bytes_at}
use Rattle.flow_cli.specs.After.{verdict_status}
use Rattle.flow_cli.specs.declared.ran.Ran.{Ran}
use Rattle.flow_cli.specs.declared.run.Said.{Said}
use Rattle.flow_load.specs.MadeJobs.{made_input}

-- The line that tells how long the file is that this process would write, if it writes one; where `wrote` says what each process wrote.
abbrev pub output_lines_at : (ℕ → List ℕ) → ℕ → Process → List ℕ
output_lines_at wrote p process = flat_map (λ name. codes "output " ++ process.name ++ 32 ∷ decimal (length (wrote p)) ++ 10 ∷ []) (written_by process)

-- Those of these processes, in order, from process p on.
abbrev pub output_lines_from : (ℕ → List ℕ) → ℕ → List Process → List ℕ
output_lines_from wrote p [] = []
output_lines_from wrote p (process ∷ processes) = output_lines_at wrote p process ++ output_lines_from wrote (p + 1) processes

-- What is told of a make: its number with the length of its input, the report of its run, and how long the files of its writers would be, in the order of the
-- processes.
abbrev pub make_text : ℕ → List ℕ → (ℕ → List ℕ) → Network → List ℕ
make_text number report wrote plan = codes "make " ++ decimal number ++ codes " input " ++ decimal (length (made_input number)) ++ 10 ∷ report ++ output_lines_from wrote 0 plan.processes

-- The network that is made, all of standard kinds, was run by so many workers, its reader on the input that is made from this number. This is its plan, and this is the state to which the
-- journal leads.
pub record IsRunOfMade (number workers : ℕ) (plan : Network) (journal : Journal) (last : State AnyKind) : Type 0 where
  pub text : NetText
  pub holds : Holds [] (text_of network_lines) text plan
  pub over : IsOfferedPlan [] plan
  pub given : List (List ℕ)
  pub gives : GivesAll plan (made_input number) given
  pub components : List AnyKind
  pub are_components : AreComponents [] plan given [] components
  pub run : RunsTo workers plan components journal last

-- What is said of a make from this number, of the run that was made.
pub record SaysOfMake (number : ℕ) (ran : Ran AnyNet) (said : Said) : Type 0 where
  pub text : said.text.items ≡ make_text number ran.report.text.items (bytes_at ran.net.bodies) ran.plan
  pub status : said.status ≡ verdict_status ran.report.verdict
  pub journal : said.journal ≡ ran.journal
  pub tapes : said.tapes ≡ ran.tapes
  pub crew : said.crew ≡ ran.crew

-- The line of process p of a run was appended, if it writes a file.
abbrev pub PutsOutput : List ℕ → List ℕ → Ran AnyNet → ℕ → Type 0
PutsOutput old new ran p = IfSome (slice_get ran.plan.processes p) (λ process. new ≡ old ++ output_lines_at (bytes_at ran.net.bodies) p process)
