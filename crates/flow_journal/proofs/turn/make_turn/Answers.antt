use Rattle.flow_journal.proofs.Refusing.{at-asks, at-quiet}
use Rattle.flow_journal.proofs.turn.make_turn.Goals as goal

pub make_level_turn-requires-clause-asks : goal.make_level_turn-requires-clause-asks
make_level_turn-requires-clause-asks g c = at-asks c.args.net.now c.args.process c.wishes_level.result c.wishes_level.ensures c.if-wishes_level.true

pub make_plain_turn-requires-clause-asks : goal.make_plain_turn-requires-clause-asks
make_plain_turn-requires-clause-asks g c = at-quiet c.args.net.now c.args.process c.wishes_level.result c.wishes_level.ensures c.if-wishes_level.false
