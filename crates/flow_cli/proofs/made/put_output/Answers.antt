use Rattle.std.proofs.Common.{◌≡◌, List, get_or, sym, subst, ◌∙◌, ap}
use Rattle.flow_plan.specs.declared.plan.Process.{Process}
use Rattle.flow_cli.specs.Leaves.{bytes_at}
use Rattle.flow_cli.proofs.Lining.{puts-line}
use Rattle.flow_cli.proofs.made.put_output.Goals as goal

pub returns-in-Some : goal.returns-in-Some
returns-in-Some g c =
    let ps = c.args.ran.now.plan.processes in
    let process = c.index-processes-process.result in
    let same : c.processes.result.now ≡ ps = c.processes.ensures.processes in
    let is : process ≡ get_or ps c.args.process process = subst (λ (l : List Process). process ≡ get_or l c.args.process process) same c.index-processes-process.is in
    puts-line (bytes_at c.args.ran.now.net.bodies) c.args.process ps process c.put_line.result c.args.text.now.items c.put_line.new.text.items c.in-Some.field-0.now c.as_slice-name.result.now c.written_at.result.now
    c.put_line.ensures c.requires.in_range is (c.as_slice-name.ensures ∙ ap (λ (p : Process). p.name) (sym c.index-processes-process.is)) c.written_at.ensures c.in-Some.ensures.some
