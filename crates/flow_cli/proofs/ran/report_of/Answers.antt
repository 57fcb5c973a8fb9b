use Rattle.std.proofs.Common.{◌≡◌, ◌∙◌, ap}
use Rattle.flow_report.specs.Of.{told_of}
use Rattle.flow_report.specs.Text.{Told as Report, brief_text, report_text}
use Rattle.flow_cli.proofs.ran.report_of.Goals as goal

pub returns : goal.returns
returns g c =
    let is : c.in_ok-report.report ≡ told_of c.args.plan.now c.args.closed.now.net = c.in_ok-report.ensures in
    record {
      verdict = c.verdict.ensures ∙ ap (λ (r : Report). r.verdict) is;
      report = c.in_ok-print.ensures ∙ ap report_text is;
      brief = c.in_ok-print_brief.ensures ∙ ap brief_text is;
    }
