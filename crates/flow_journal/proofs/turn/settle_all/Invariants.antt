use Rattle.std.proofs.Common.{◌≡◌, length}
use Rattle.flow_machine.specs.Logs.{turns_made}
use Rattle.flow_machine.specs.Solo.{Goes, SetBelow, some_works}
use Rattle.flow_journal.proofs.turn.settle_all.Given as goal

abbrev pub invariant-loop-process : goal.invariant-loop-process
invariant-loop-process g l = record {
  set : SetBelow l.process l.net.bodies;
  len : length l.net.bodies ≡ length l.fn.net.bodies;
  turns : turns_made l.net ≡ turns_made l.fn.net;
  goes : Goes g.K.Component.rules (some_works g.K.Component.rules) l.fn.net (turns_made l.fn.net) l.net (turns_made l.fn.net);
}
