use Rattle.std.proofs.Common.{◌≡◌, ◌+◌, true, sym, ◌∙◌, ap, take, add-one}
use Rattle.std.specs.List.{list_all}
use Rattle.flow_model.specs.Stages.{has_ended}
use Rattle.flow_report.proofs.Tests.{all-not, all-more}
use Rattle.flow_report.proofs.of.all_ended.Goals as goal

pub returns-then-not-has_ended : goal.returns-then-not-has_ended
returns-then-not-has_ended g c =
    sym (all-not (λ b. has_ended b.process.stage) c.args.net.now.bodies c.loop-process.process c.body.result.now c.body.ensures
    (ap has_ended (sym c.stage.ensures) ∙ sym c.has_ended.ensures ∙ c.if-not-has_ended.true))

pub loop-process-preserved : goal.loop-process-preserved
loop-process-preserved g c =
    let more : list_all (λ b. has_ended b.process.stage) (take (c.loop-process.process + 1) c.args.net.now.bodies) ≡ true =
    rw add-one (all-more (λ b. has_ended b.process.stage) c.args.net.now.bodies c.loop-process.process c.body.result.now c.body.ensures
    (ap has_ended (sym c.stage.ensures) ∙ sym c.has_ended.ensures ∙ c.if-not-has_ended.false) c.loop-process.invariant) in
    more
