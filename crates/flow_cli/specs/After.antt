-- What a call does once there is something to print.
use Rattle.std.specs.Prelude.{◌≡◌, ◌⊎◌, ℕ, List, Bool, true, false, [], ◌&&◌, is_some, if◌then◌else◌}
use Rattle.flow_text.specs.Edge.{Outside, after_write}
use Rattle.flow_text.specs.WriteAll.{WroteAndFailed}
use Rattle.flow_words.specs.Words.{AskedReport}
use Rattle.flow_report.specs.Text.{Told as Report, report_text, brief_text}
use Rattle.flow_report.specs.declared.report.Verdict.{Verdict}
use Rattle.flow_report.specs.declared.report.Verdict.TheVariants as verdicts
use Rattle.flow_load.specs.declared.status.Status.{Status}
use Rattle.flow_load.specs.declared.status.Status.TheVariants.{Finished, FinishedLeft, Deadlock, Failed, Running, WriteFault}

-- The status of a run that came to its end.
abbrev pub verdict_status : Verdict → Status
verdict_status verdicts.Finished = Finished
verdict_status verdicts.FinishedLeft = FinishedLeft
verdict_status verdicts.Deadlock = Deadlock
verdict_status verdicts.Failed = Failed
verdict_status verdicts.Running = Running

-- What a call prints to: its output and its error output.
pub record Outputs : Type 0 where
  pub out : Outside
  pub err : Outside

-- The two together.
abbrev pub outputs_at : Outside → Outside → Outputs
outputs_at out err = record { out = out; err = err }

-- The text was printed to the output and the remark to the error output, and nothing else.
abbrev pub after_print : Outputs → List ℕ → List ℕ → Outputs
after_print old text remark = record { out = after_write old.out text; err = after_write old.err remark }

-- A write to the output failed behind a proper first part of the text, and nothing was printed to the error output; or the whole text was printed, and a write to the error output failed behind a
-- proper first part of the remark.
abbrev pub FailsToPrint : Outputs → Outputs → List ℕ → List ℕ → Type 0
FailsToPrint old new text remark = ((n : ℕ) × WroteAndFailed old.out new.out text n × (new.err ≡ old.err))
    ⊎ ((n : ℕ) × WroteAndFailed old.err new.err remark n × (new.out ≡ after_write old.out text))

-- The text was printed to the output and the remark to the error output, with this status; or a write failed, and the status is that of a write fault.
abbrev pub Prints : Outputs → Outputs → List ℕ → List ℕ → Status → Status → Type 0
Prints old new text remark status result = ((result ≡ status) × (new ≡ after_print old text remark)) ⊎ ((result ≡ WriteFault) × FailsToPrint old new text remark)

-- Every process ended, and nothing is left.
abbrev pub has_all_done : Verdict → Bool
has_all_done verdicts.Finished = true
has_all_done _ = false

-- What is said of a report with this verdict, whole or in brief, as it was asked for: and nothing of a run that finished with nothing left, where that was asked for.
abbrev pub said_by : AskedReport → Verdict → List ℕ → List ℕ → List ℕ
said_by asked verdict whole brief = if asked.quiet && has_all_done verdict then [] else if asked.brief then brief else whole

-- What is printed of it: nothing, where it has a file.
abbrev pub printed_by : AskedReport → Verdict → List ℕ → List ℕ → List ℕ
printed_by asked verdict whole brief = if is_some asked.file then [] else said_by asked verdict whole brief

-- What goes to the error output: nothing, but where it has a file and was asked for in brief.
abbrev pub remarked_by : AskedReport → Verdict → List ℕ → List ℕ → List ℕ
remarked_by asked verdict whole brief = if is_some asked.file && asked.brief then said_by asked verdict whole brief else []

-- The same of the texts of a report.
abbrev pub printed_text : AskedReport → Report → List ℕ
printed_text asked report = printed_by asked report.verdict (report_text report) (brief_text report)

abbrev pub remarked_text : AskedReport → Report → List ℕ
remarked_text asked report = remarked_by asked report.verdict (report_text report) (brief_text report)
