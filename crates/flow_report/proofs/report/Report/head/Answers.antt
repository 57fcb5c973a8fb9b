use Rattle.std.proofs.Common.{◌++◌, ◌∙◌, ap}
use Rattle.flow_report.specs.Text.{Told, ended, verdict_line}
use Rattle.flow_report.proofs.Printing.{head-of}
use Rattle.flow_report.proofs.report.Report.head.Goals as goal

pub returns : goal.returns
returns c =
    head-of c.args.self.now c.as_slice-processes.result.now c.as_slice-connections.result.now c.as_slice.result.now c.as_slice-2.result.now c.as_slice-3.result.now
    c.new-text.result.items c.put_verdict.new.text.items c.put_processes.new.text.items c.put_connections.new.text.items c.put_blocked.new.text.items c.put_waits.new.text.items c.put_failed.new.text.items
    (c.as_slice-processes.ensures ∙ ap (λ (r : Told). r.processes) c.self.view_is)
    (c.as_slice-connections.ensures ∙ ap (λ (r : Told). r.connections) c.self.view_is)
    (c.as_slice.ensures ∙ ap (λ (r : Told). r.blocked) c.self.view_is)
    (c.as_slice-2.ensures ∙ ap (λ (r : Told). r.waits) c.self.view_is)
    (c.as_slice-3.ensures ∙ ap (λ (r : Told). r.failed) c.self.view_is)
    c.new-text.ensures.items
    (c.in_ok-put_verdict.ensures ∙ ap (λ (r : Told). c.new-text.result.items ++ ended (verdict_line r.verdict)) c.self.view_is)
    c.in_ok-put_processes.ensures c.in_ok-put_connections.ensures c.in_ok-put_blocked.ensures c.in_ok-put_waits.ensures c.in_ok-put_failed.ensures
