use Rattle.std.proofs.Common.{◌≡◌, length, sym}
use Rattle.flow_machine.specs.Logs.{turns_made}
use Rattle.flow_machine.specs.Solo.{Goes}
use Rattle.flow_journal.specs.Replays.{replayed}
use Rattle.flow_journal.specs.Replaying.{LeadsOn}
use Rattle.flow_journal.proofs.Replayed.{on-ok, replays}
use Rattle.flow_journal.proofs.again.make_again.Goals as goal

pub returns-clause-goes : goal.returns-clause-goes
returns-clause-goes g c = on-ok c.make_turns.result (length c.make_turns.new.net.bodies ≡ length c.settle_all.new.net.bodies)
    (Goes g.K.Component.rules (LeadsOn g.K.Component.rules c.args.journal.now) c.settle_all.new.net (turns_made c.settle_all.new.net) c.make_turns.new.net (turns_made c.make_turns.new.net))
    (Goes g.K.Component.rules (replayed g.K.Component.rules c.args.journal.now) c.args.net.now (turns_made c.args.net.now) c.make_turns.new.net (turns_made c.make_turns.new.net))
    (λ len goes. replays g.K.Component.rules g.met.K.Component.lawful c.args.journal.now c.args.net.now c.settle_all.new.net c.make_turns.new.net (sym len) c.in_ok-settle_all.ensures.turns c.in_ok-settle_all.ensures.goes goes)
    c.make_turns.ensures.len c.make_turns.ensures.goes
