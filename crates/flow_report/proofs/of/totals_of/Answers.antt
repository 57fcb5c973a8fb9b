use Rattle.std.proofs.Common.{◌∙◌, ap, add-one}
use Rattle.flow_report.specs.declared.of.Totals.{Totals}
use Rattle.flow_report.specs.Of.{with_process}
use Rattle.flow_report.proofs.Tellings.{totals-more}
use Rattle.flow_report.proofs.of.totals_of.Goals as goal

pub loop-process-preserved : goal.loop-process-preserved
loop-process-preserved g c =
    rw add-one (c.with_body-totals.ensures
    ∙ ap (λ (t : Totals). with_process t c.body.result.now) c.loop-process.invariant
    ∙ totals-more c.args.net.now.bodies c.loop-process.process c.body.result.now c.body.ensures)
