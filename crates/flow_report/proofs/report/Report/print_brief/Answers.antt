use Rattle.std.proofs.Common.{ap, ◌∙◌}
use Rattle.flow_report.specs.Text.{Told}
use Rattle.flow_report.proofs.Printing.{brief-of}
use Rattle.flow_report.proofs.report.Report.print_brief.Goals as goal

pub returns : goal.returns
returns c =
    brief-of c.args.self.now c.as_slice-left.result.now c.min-named.result c.in_ok-text.text.items c.put_left.new.text.items c.put_more.new.text.items c.put_end.new.text.items
    (c.as_slice-left.ensures ∙ ap (λ (r : Told). r.left) c.self.view_is) c.min-named.ensures c.in_ok-text.ensures c.in_ok-put_left.ensures c.in_ok-put_more.ensures c.in_ok-put_end.ensures
