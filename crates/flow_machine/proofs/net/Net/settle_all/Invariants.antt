use Rattle.std.proofs.Common.{◌≡◌, length}
use Rattle.flow_machine.specs.Logs.{turns_made}
use Rattle.flow_machine.specs.Solo.{Goes, ReachesNet, SetBelow, some_works}
use Rattle.flow_machine.proofs.net.Net.settle_all.Given as goal

abbrev pub invariant-loop-process : goal.invariant-loop-process
invariant-loop-process g l = record {
  set : SetBelow l.process l.self.bodies;
  len : length l.self.bodies ≡ length l.fn.self.bodies;
  turns : turns_made l.self ≡ turns_made l.fn.self;
  reaches : ReachesNet g.K.Component.rules l.fn.self l.self;
  goes : Goes g.K.Component.rules (some_works g.K.Component.rules) l.fn.self (turns_made l.fn.self) l.self (turns_made l.fn.self);
}
