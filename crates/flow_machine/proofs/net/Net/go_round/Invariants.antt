use Rattle.std.proofs.Common.{◌≡◌, ◌≤◌, ◌-◌, length}
use Rattle.flow_limits.specs.declared.TheConstants.{RUN_LIMIT}
use Rattle.flow_machine.specs.Logs.{turns_made}
use Rattle.flow_machine.specs.Starts.{AllSet}
use Rattle.flow_machine.specs.Solo.{Goes, ReachesNet, some_passes}
use Rattle.flow_machine.proofs.net.Net.go_round.Given as goal

abbrev pub invariant-loop : goal.invariant-loop
invariant-loop g l = record {
  set : AllSet l.self.bodies;
  len : length l.self.bodies ≡ length l.initial.self.bodies;
  next : l.stamp ≡ turns_made l.self;
  few : l.stamp ≤ RUN_LIMIT;
  reaches : ReachesNet g.K.Component.rules l.initial.self l.self;
  goes : Goes g.K.Component.rules (some_passes g.K.Component.rules) l.initial.self l.initial.stamp l.self l.stamp;
}

abbrev pub decreases-loop : goal.decreases-loop
decreases-loop g l = RUN_LIMIT - l.stamp
