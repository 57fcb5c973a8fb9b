use Rattle.std.proofs.Common.{◌≡◌, false, take}
use Rattle.std.specs.List.{list_any}
use Rattle.flow_model.specs.Stages.{has_failed}
use Rattle.flow_report.proofs.of.some_failed.Given as goal

abbrev pub invariant-loop-process : goal.invariant-loop-process
invariant-loop-process g l = list_any (λ b. has_failed b.process.stage) (take l.process l.net.bodies) ≡ false
