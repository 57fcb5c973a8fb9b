use Rattle.std.proofs.Common.{◌≡◌, ◌+◌, false, sym, ◌∙◌, ap, take, add-one}
use Rattle.std.specs.List.{list_any}
use Rattle.flow_model.specs.Stages.{has_failed}
use Rattle.flow_model.proofs.Lookups.{any-there}
use Rattle.flow_report.proofs.Tests.{any-more}
use Rattle.flow_report.proofs.of.some_failed.Goals as goal

pub returns-then-has_failed : goal.returns-then-has_failed
returns-then-has_failed g c =
    sym (any-there (λ b. has_failed b.process.stage) c.args.net.now.bodies c.loop-process.process c.body.result.now c.body.ensures
    (ap has_failed (sym c.stage.ensures) ∙ sym c.has_failed.ensures ∙ c.if-has_failed.true))

pub loop-process-preserved : goal.loop-process-preserved
loop-process-preserved g c =
    let more : list_any (λ b. has_failed b.process.stage) (take (c.loop-process.process + 1) c.args.net.now.bodies) ≡ false =
    rw add-one (any-more (λ b. has_failed b.process.stage) c.args.net.now.bodies c.loop-process.process c.body.result.now c.body.ensures
    (ap has_failed (sym c.stage.ensures) ∙ sym c.has_failed.ensures ∙ c.if-has_failed.false) c.loop-process.invariant) in
    more
