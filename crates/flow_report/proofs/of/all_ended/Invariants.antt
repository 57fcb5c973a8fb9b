use Rattle.std.proofs.Common.{◌≡◌, true, take}
use Rattle.std.specs.List.{list_all}
use Rattle.flow_model.specs.Stages.{has_ended}
use Rattle.flow_report.proofs.of.all_ended.Given as goal

abbrev pub invariant-loop-process : goal.invariant-loop-process
invariant-loop-process g l = list_all (λ b. has_ended b.process.stage) (take l.process l.net.bodies) ≡ true
