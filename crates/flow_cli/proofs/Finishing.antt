-- What was printed once the files of a run were written, or writing them stopped, ends the run.
use Rattle.std.proofs.Common.{◌≡◌, inl, inr, Ok, Err, ap, subst}
use Rattle.std.specs.declared.result.Result.{Result}
use Rattle.flow_text.specs.Edge.{Outside}
use Rattle.flow_words.specs.Words.{report_by}
use Rattle.flow_cli.specs.Live.{AnyNet}
use Rattle.flow_cli.specs.After.{Outputs}
use Rattle.flow_load.specs.Many.{WritesFiles}
use Rattle.flow_cli.specs.Top.{Finishes, PrintsReport, PrintsWritten, outputs_of_run}
use Rattle.flow_cli.specs.declared.ran.Account.{Account}
use Rattle.flow_cli.specs.declared.ran.PrintedReport.{PrintedReport}
use Rattle.flow_cli.specs.declared.run.Unwritten.{Unwritten}
use Rattle.flow_load.specs.declared.status.Status.{Status}
use Rattle.flow_load.specs.declared.stop.Stop.{Stop}

-- The account of a run that is over is printed.
pub finished-as-printed : (a n : Outside) (po pn : Outputs) (run : Unwritten AnyNet) (written : Result (Unit {0}) Stop) (account : Account) (status : Status)
    → account ≡ record { report = run.ran.report; journal = run.ran.journal; tapes = run.ran.tapes; crew = run.ran.crew } → WritesFiles a n written (outputs_of_run run)
    → PrintsWritten po pn (report_by run.telling) account.report written status → Finishes a n po pn run status
finished-as-printed a n po pn run (Ok done) account status same writes prints =
    inl (writes, subst (λ (r : PrintedReport). PrintsReport po pn (report_by run.telling) r status) (ap (λ (x : Account). x.report) same) prints)
finished-as-printed a n po pn run (Err stop) account status same writes prints = inr (stop, writes, prints)
