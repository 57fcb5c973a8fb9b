use Rattle.flow_machine.proofs.SoloLemmas.{set-in}
use Rattle.flow_journal.proofs.turn.make_level_turn.Goals as goal

pub turn_seen-requires-clause-set : goal.turn_seen-requires-clause-set
turn_seen-requires-clause-set g c = set-in c.args.net.now c.args.process c.requires.set
