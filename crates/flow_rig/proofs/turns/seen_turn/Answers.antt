use Rattle.std.proofs.Common.{◌≡◌, sym, ◌∙◌, slice_get, true}
use Rattle.flow_machine.specs.Values.{BodyValue}
use Rattle.flow_machine.specs.Nets.{is_asking}
use Rattle.flow_machine.proofs.NetTurns.{if_some, some_if}
use Rattle.flow_rig.proofs.Set.{thought-there, thought-within, thought-set}
use Rattle.flow_rig.proofs.turns.seen_turn.Goals as goal

pub turn_seen-requires-clause-in_range : goal.turn_seen-requires-clause-in_range
turn_seen-requires-clause-in_range g c = thought-within g.K.Component.rules c.args.net.now c.args.process c.think.new.self c.in-Wishing.ensures.thinks

pub turn_seen-requires-clause-set : goal.turn_seen-requires-clause-set
turn_seen-requires-clause-set g c = thought-set g.K.Component.rules c.args.net.now c.args.process c.think.new.self c.in-Wishing.ensures.thinks

pub turn_seen-requires-clause-asks : goal.turn_seen-requires-clause-asks
turn_seen-requires-clause-asks g c =
    let after = c.in-Wishing.ensures.thinks.after in
    let there = thought-there g.K.Component.rules c.args.net.now c.args.process c.think.new.self c.in-Wishing.ensures.thinks in
    let told = if_some (slice_get c.think.new.self.bodies c.args.process) (λ (b : BodyValue g.row.K.Denot). c.wishes_level.result ≡ is_asking b.process.stage) after there c.wishes_level.ensures in
    some_if (slice_get c.think.new.self.bodies c.args.process) (λ (b : BodyValue g.row.K.Denot). is_asking b.process.stage ≡ true) after there (sym told ∙ c.if-not-wishes_level.false)
