use Rattle.std.proofs.Common.{◌∙◌, ap, sym}
use Rattle.flow_runner.specs.Lines.{all_puts, all_takes}
use Rattle.flow_runner.proofs.Lined.{each-leaves}
use Rattle.flow_runner.proofs.line.Line.close.Goals as goal

pub returns-clause-order : goal.returns-clause-order
returns-clause-order g c = let items = c.in-Some.ensures.items in let only = c.gather-only.ensures in let d = c.drain.ensures in
    (d.0, ap all_takes items ∙ sym only.taken ∙ d.1, ap all_puts items ∙ sym only.put ∙ d.2)

pub returns-clause-each : goal.returns-clause-each
returns-clause-each g c = each-leaves c.args.passes.items c.drain.result.items (let items = c.in-Some.ensures.items in let only = c.gather-only.ensures in let d = c.drain.ensures in (d.0, ap all_takes items ∙ sym only.taken ∙ d.1, ap all_puts items ∙ sym only.put ∙ d.2))
