use Rattle.flow_machine.specs.Nets.{level_of}
use Rattle.flow_machine.proofs.SoloLemmas.{set-in}
use Rattle.flow_journal.proofs.Turning.{made-plain}
use Rattle.flow_journal.proofs.Refusing.{over-refused}
use Rattle.flow_journal.proofs.turn.make_plain_turn.Goals as goal

pub turn-requires-clause-set : goal.turn-requires-clause-set
turn-requires-clause-set g c = set-in c.args.net.now c.args.process c.requires.set

pub returns-in-Made-clause-made : goal.returns-in-Made-clause-made
returns-in-Made-clause-made g c =
    let made = c.in-Made.ensures.turns.1 in
    made-plain c.args.net.now c.args.process (level_of c.args.net.now c.args.process) c.args.stamp c.args.seen.now made.0 c.turn.new.self made.1 c.requires.asks

pub returns-in-Blocked-clause-refused : goal.returns-in-Blocked-clause-refused
returns-in-Blocked-clause-refused g c = c.in-Blocked.ensures.turns.0

pub returns-in-Over-clause-refused : goal.returns-in-Over-clause-refused
returns-in-Over-clause-refused g c = over-refused c.args.net.now c.args.process (level_of c.args.net.now c.args.process) c.args.stamp c.in-Over.field-0 c.turn.new.self c.args.seen.now c.requires.in_range c.in-Over.ensures.turns
