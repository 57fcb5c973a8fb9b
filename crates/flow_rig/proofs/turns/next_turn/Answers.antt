use Rattle.flow_rig.proofs.Set.{thought-within, thought-set}
use Rattle.flow_rig.proofs.turns.next_turn.Goals as goal

pub turn-requires-clause-in_range : goal.turn-requires-clause-in_range
turn-requires-clause-in_range g c = thought-within g.K.Component.rules c.args.net.now c.args.process c.think.new.self c.in-Wishing.ensures.thinks

pub turn-requires-clause-set : goal.turn-requires-clause-set
turn-requires-clause-set g c = thought-set g.K.Component.rules c.args.net.now c.args.process c.think.new.self c.in-Wishing.ensures.thinks
