use Rattle.std.proofs.Common.{ap, ◌∙◌}
use Rattle.flow_report.specs.Text.{Told}
use Rattle.flow_report.proofs.Printing.{left-on}
use Rattle.flow_report.proofs.report.Report.put_left.Goals as goal

pub returns : goal.returns
returns c =
    left-on c.put_left.result c.args.self.now c.as_slice.result.now c.as_slice-2.result.now c.args.left.now c.args.text.now.items c.put_left.new.text.items
    (c.as_slice.ensures ∙ ap (λ (r : Told). r.processes) c.self.view_is)
    (c.as_slice-2.ensures ∙ ap (λ (r : Told). r.connections) c.self.view_is)
    c.put_left.ensures
