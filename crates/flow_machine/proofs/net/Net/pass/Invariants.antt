use Rattle.std.proofs.Common.{◌≡◌, ◌≤◌, length}
use Rattle.flow_limits.specs.declared.TheConstants.{RUN_LIMIT}
use Rattle.flow_machine.specs.Logs.{turns_made}
use Rattle.flow_machine.specs.Starts.{AllSet}
use Rattle.flow_machine.specs.Solo.{Goes, ReachesNet, pass_below}
use Rattle.flow_machine.proofs.net.Net.pass.Given as goal

abbrev pub invariant-loop-process : goal.invariant-loop-process
invariant-loop-process g l = record {
  set : AllSet l.self.bodies;
  len : length l.self.bodies ≡ length l.fn.self.bodies;
  next : l.stamp ≡ turns_made l.self;
  few : l.stamp ≤ RUN_LIMIT;
  grown : l.fn.stamp ≤ l.stamp;
  reaches : ReachesNet g.K.Component.rules l.fn.self l.self;
  goes : Goes g.K.Component.rules (pass_below g.K.Component.rules l.process) l.fn.self l.fn.stamp l.self l.stamp;
}
