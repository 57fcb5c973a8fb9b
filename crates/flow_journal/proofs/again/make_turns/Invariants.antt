use Rattle.std.proofs.Common.{◌≡◌, ◌+◌, length}
use Rattle.flow_machine.specs.Logs.{turns_made}
use Rattle.flow_machine.specs.Starts.{AllSet}
use Rattle.flow_machine.specs.Solo.{Goes}
use Rattle.flow_journal.specs.Replaying.{LeadsTo}
use Rattle.flow_journal.proofs.again.make_turns.Given as goal

abbrev pub invariant-loop-place : goal.invariant-loop-place
invariant-loop-place g l = record {
  set : AllSet l.net.bodies;
  len : length l.net.bodies ≡ length l.fn.net.bodies;
  next : l.first + l.place ≡ turns_made l.net;
  goes : Goes g.K.Component.rules (LeadsTo g.K.Component.rules l.journal l.place l.left) l.fn.net (turns_made l.fn.net) l.net (l.first + l.place);
}
