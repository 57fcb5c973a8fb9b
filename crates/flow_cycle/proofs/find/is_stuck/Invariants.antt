use Rattle.std.proofs.Common.{◌≡◌, drop, ◌||◌}
use Rattle.std.specs.List.{list_all}
use Rattle.flow_model.specs.Stages.{has_ended}
use Rattle.flow_cycle.specs.Nets.{is_blocked, is_stuck}
use Rattle.flow_cycle.proofs.find.is_stuck.Given as goal

abbrev pub invariant-loop-process : goal.invariant-loop-process
invariant-loop-process g l = is_stuck l.net ≡ list_all (λ b. has_ended b.process.stage || is_blocked l.net b) (drop l.process l.net.bodies)
