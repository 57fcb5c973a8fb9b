use Rattle.std.proofs.Common.{◌++◌, ◌∙◌, [], ap, add-one}
use Rattle.flow_model.specs.declared.Stage.{Stage}
use Rattle.flow_machine.specs.Joins.{processes_of}
use Rattle.flow_report.specs.Of.{failure_told, failed_at}
use Rattle.flow_report.proofs.Tellings.{told-step, process-there}
use Rattle.flow_report.proofs.of.all_failed.Goals as goal

pub loop-process-preserved : goal.loop-process-preserved
loop-process-preserved g c =
    rw add-one (told-step (failure_told c.args.plan.now) (processes_of c.args.net.now.bodies) c.loop-process.process c.body.result.now.process []
    c.loop-process.failed c.add_failed.new.failed (process-there c.args.net.now.bodies c.loop-process.process c.body.result.now c.body.ensures) c.loop-process.invariant
    (c.in_ok-add_failed.ensures ∙ ap (λ (st : Stage). c.loop-process.failed ++ failed_at c.args.plan.now c.loop-process.process st) c.stage.ensures))
