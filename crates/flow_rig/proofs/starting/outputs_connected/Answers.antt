use Rattle.std.proofs.Common.{below_more, sym, ◌∙◌}
use Rattle.flow_plan.specs.Valid.{HasSender}
use Rattle.flow_catalogue.proofs.Connected.{connected-sends}
use Rattle.flow_rig.proofs.starting.outputs_connected.Goals as goal

pub loop-output-preserved : goal.loop-output-preserved
loop-output-preserved c =
    below_more (HasSender c.args.plan.now c.args.process) c.loop-output.output c.loop-output.invariant
    (connected-sends c.args.plan.now c.args.process c.loop-output.output (sym c.is_connected.ensures ∙ c.if-not-is_connected.false))
