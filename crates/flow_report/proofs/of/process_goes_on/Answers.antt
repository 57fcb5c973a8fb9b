use Rattle.std.proofs.Common.{◌∙◌, ap}
use Rattle.std.specs.Prelude.{◌||◌, Option}
use Rattle.std.specs.Option.{is_none}
use Rattle.flow_model.specs.declared.Stage.{Stage}
use Rattle.flow_model.specs.declared.Block.{Block}
use Rattle.flow_model.specs.Stages.{has_ended, has_failed}
use Rattle.flow_report.proofs.Going.{goes-of}
use Rattle.flow_report.proofs.of.process_goes_on.Goals as goal

pub returns : goal.returns
returns g c =
    goes-of c.args.net.now c.args.process c.body.result.now c.is_over-over.result c.is_free-free.result c.body.ensures
    (c.is_over-over.ensures ∙ ap (λ (st : Stage). has_ended st || has_failed st) c.stage.ensures)
    (c.is_free-free.ensures ∙ ap (λ (o : Option Block). is_none o) c.block_of.ensures)
