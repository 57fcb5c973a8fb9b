-- What stands after a run and the writing of its files.
use Rattle.std.proofs.Common.{◌≡◌, ◌∙◌, inl, inr, ℕ, List, ◌++◌, Err, ap, ap₂, subst}
use Rattle.std.specs.Prelude.{String, string_bytes}
use Rattle.std.specs.declared.alloc.Global.{Global}
use Rattle.flow_cli.specs.Live.{AnyNet}
use Rattle.flow_load.specs.Offers.{Offer, specs_of}
use Rattle.flow_text.specs.Edge.{Outside, Name}
use Rattle.flow_words.specs.Words.{AskedReport, report_by}
use Rattle.flow_report.specs.Text.{Told as Report, report_text}
use Rattle.flow_report.specs.declared.report.Verdict.{Verdict}
use Rattle.flow_load.specs.Step.{Filled}
use Rattle.flow_load.specs.Many.{WritesFiles, WritesAll, EndsAt, FailsAt}
use Rattle.flow_cli.specs.After.{Outputs, Prints, printed_by, printed_text, remarked_by, remarked_text, verdict_status}
use Rattle.flow_load.specs.Causes.{IsRunOf, IsWriteFault, HasCause}
use Rattle.flow_cli.specs.Top.{IsWhole, HasRun, PrintsReport, kept_file, outputs_of_run, recorded_by}
use Rattle.flow_cli.specs.declared.run.Unwritten.{Unwritten}
use Rattle.flow_cli.specs.Leaves.{bytes_at, net_outputs}
use Rattle.flow_load.specs.Runs.{bytes_in, files_of_run, kept_files, outputs_of, report_file}
use Rattle.flow_cli.proofs.Leaving.{outputs-same}
use Rattle.flow_load.specs.declared.status.Status.{Status}
use Rattle.flow_load.specs.declared.stop.Stop.{Stop}
use Rattle.flow_load.specs.declared.stop.Stop.TheVariants.{Words, Refused, NoPart, JournalRefused, TapesRefused, ReadFault, WriteFault, TooLong, NoMemory}
use Rattle.flow_load.specs.Prepare.{so_far}

module _ (o a n : Outside) (words : List (String Global)) (own : List Offer) (run : Unwritten AnyNet) (has : HasRun (specs_of own) o a words run) where
  unfoldable pub run-of : IsRunOf (so_far words own o n (recorded_by run.ran)) has.asked run.ran.plan has.leaves.last a
  run-of = record {
    given = has.given;
    ready = has.ready;
    components = has.leaves.components;
    are_components = has.leaves.are_components;
    run = has.leaves.run;
    played_out = has.leaves.played_out;
    writable = has.leaves.writable;
    tapes_writable = has.leaves.tapes_writable;
  }

  -- The files but for that of the report.
  kept-files : net_outputs run.ran.plan run.ran.net ++ (kept_file run.journal ++ kept_file run.tapes) ≡ outputs_of run.ran.plan has.leaves.last ++ kept_files has.asked (recorded_by run.ran)
  kept-files = ap (λ l. l ++ (kept_file run.journal ++ kept_file run.tapes)) (outputs-same (bytes_at run.ran.net.bodies) (bytes_in has.leaves.last) has.leaves.wrote 0 run.ran.plan.processes) ∙ ap (λ l. outputs_of run.ran.plan has.leaves.last ++ l) has.kept

  -- The files of the code are those of the run.
  pub files : outputs_of_run run ≡ files_of_run run.ran.plan has.leaves.last has.asked (recorded_by run.ran) (report_text has.leaves.told_is.report)
  files = ap (λ l. l ++ report_file (report_by run.telling).file run.ran.report.text.items) kept-files
      ∙ ap₂ (λ (asked : AskedReport) (text : List ℕ). (outputs_of run.ran.plan has.leaves.last ++ kept_files has.asked (recorded_by run.ran)) ++ report_file asked.file text) has.telling has.leaves.told_is.text

  fails : (written : Name) → FailsAt a n (outputs_of_run run) written → IsWriteFault (so_far words own o n (recorded_by run.ran)) written
  fails written w = record {
    asked = has.asked;
    asks = has.asks;
    plan = run.ran.plan;
    last = has.leaves.last;
    middle = a;
    run = run-of;
    report = has.leaves.told_is.report;
    tells = has.leaves.told_is.tells;
    fails = subst (λ (l : List Filled). FailsAt a n l written) files w;
  }

  -- a stop in writing
  pub stops-writing : (stop : Stop) → WritesFiles {T = Unit {0}} a n (Err stop) (outputs_of_run run) → HasCause (so_far words own o n (recorded_by run.ran)) stop
  stops-writing (WriteFault written) w = fails (string_bytes written) w
  stops-writing NoMemory (inl w) = inr (inl (record {
    asked = has.asked;
    asks = has.asks;
    plan = run.ran.plan;
    last = has.leaves.last;
    middle = a;
    run = run-of;
    report = has.leaves.told_is.report;
    tells = has.leaves.told_is.tells;
    ends = subst (λ (l : List Filled). EndsAt a n l) files w;
  }))
  stops-writing NoMemory (inr w) = inr (inr (w.0, fails w.0 w.1))
  stops-writing Words w = absurd w
  stops-writing (Refused refusal) w = absurd w
  stops-writing (NoPart process) w = absurd w
  stops-writing (JournalRefused refusal) w = absurd w
  stops-writing (TapesRefused refusal) w = absurd w
  stops-writing (ReadFault read) w = absurd w
  stops-writing (TooLong read) w = absurd w

  -- all files were written
  unfoldable pub whole-run : WritesAll a n (outputs_of_run run) → IsWhole (so_far words own o n (recorded_by run.ran)) has.asked has.leaves.told_is.report
  whole-run w = record {
    plan = run.ran.plan;
    last = has.leaves.last;
    middle = a;
    run = run-of;
    writes = subst (λ (l : List Filled). WritesAll a n l) files w;
    tells = has.leaves.told_is.tells;
  }

  -- what was told is the report
  pub told-report : (po pn : Outputs) (status : Status) → PrintsReport po pn (report_by run.telling) run.ran.report status
      → Prints po pn (printed_text has.asked.report has.leaves.told_is.report) (remarked_text has.asked.report has.leaves.told_is.report) (verdict_status has.leaves.told_is.report.verdict) status
  told-report po pn status p = subst (λ (all : AskedReport × Verdict × List ℕ × List ℕ). Prints po pn (printed_by all.0 all.1 all.2 all.3) (remarked_by all.0 all.1 all.2 all.3) (verdict_status all.1) status)
      (λ i. (has.telling i, has.leaves.told_is.verdict i, has.leaves.told_is.text i, has.leaves.told_is.brief i)) p
