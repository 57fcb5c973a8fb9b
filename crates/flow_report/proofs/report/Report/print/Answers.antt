use Rattle.std.proofs.Common.{map, ap, ◌∙◌, ◌++◌}
use Rattle.std.specs.List.{flat_map}
use Rattle.flow_report.specs.Text.{Told, ended, left_line}
use Rattle.flow_report.specs.declared.report.LeftPacket.{LeftPacket}
use Rattle.std.proofs.Common.{List}
use Rattle.flow_report.proofs.Printing.{around-of}
use Rattle.flow_report.proofs.report.Report.print.Goals as goal

pub returns : goal.returns
returns c =
    let r = c.args.self.now in
    around-of r (map (left_line r.processes r.connections) r.left) c.in_ok-text.text.items c.put_left.new.text.items c.put_end.new.text.items c.in_ok-text.ensures
    (c.in_ok-put_left.ensures ∙ ap (λ (l : List LeftPacket). c.in_ok-text.text.items ++ flat_map ended (map (left_line r.processes r.connections) l)) (c.as_slice.ensures ∙ ap (λ (r : Told). r.left) c.self.view_is))
    c.in_ok-put_end.ensures
