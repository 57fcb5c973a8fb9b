use Rattle.std.proofs.Common.{◌≡◌, ◌≤◌, ◌-◌, length}
use Rattle.flow_limits.specs.declared.TheConstants.{RUN_LIMIT}
use Rattle.flow_machine.specs.Logs.{turns_made}
use Rattle.flow_machine.specs.Starts.{AllSet}
use Rattle.flow_machine.specs.Solo.{Goes, ReachesNet, turns_of}
use Rattle.flow_machine.proofs.net.Net.burst.Given as goal

abbrev pub invariant-loop-stamp : goal.invariant-loop-stamp
invariant-loop-stamp g l = record {
  set : AllSet l.self.bodies;
  len : length l.self.bodies ≡ length l.fn.self.bodies;
  next : l.stamp ≡ turns_made l.self;
  few : l.stamp ≤ RUN_LIMIT;
  reaches : ReachesNet g.K.Component.rules l.fn.self l.self;
  goes : Goes g.K.Component.rules (turns_of g.K.Component.rules l.process) l.fn.self l.fn.stamp l.self l.stamp;
}

abbrev pub decreases-loop-stamp : goal.decreases-loop-stamp
decreases-loop-stamp g l = RUN_LIMIT - l.stamp
