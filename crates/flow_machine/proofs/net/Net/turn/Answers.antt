use Rattle.std.proofs.Common.{rules, ◌≡◌, [], sym, ◌∙◌, ap}
use Rattle.std.proofs.lemmas.List.{with_items_is}
use Rattle.flow_machine.specs.Values.{NetValue, net_with}
use Rattle.flow_machine.specs.Nets.{TurnsNet, level_of}
use Rattle.flow_machine.specs.Logs.{turns_made}
use Rattle.flow_machine.proofs.FitLemmas.{fit-answer, goes-by, turns-most}
use Rattle.flow_machine.proofs.Planning.{planned-answer}
use Rattle.flow_machine.proofs.Wholes.{fit-with, turns-with}
use Rattle.flow_machine.proofs.net.Net.turn.Goals as goal

pub turn_of-requires-clause-fit : goal.turn_of-requires-clause-fit
turn_of-requires-clause-fit g c = rw (c.deref_mut.ensures.value, c.deref_mut-2.ensures.value) (fit-with g.K.Component.rules c.self.inside.connections.items [] c.self.inside.bodies.items c.self.inside.channels.items c.self.invariant.fit)

pub invariant_of-self : goal.invariant_of-self
invariant_of-self g c =
    let bodies = with_items_is c.self.inside.bodies c.turn_of.new.bodies (search rules) in
    let channels = with_items_is c.self.inside.channels c.turn_of.new.channels (search rules) in
    let old : NetValue g.row.K.Denot = net_with c.self.inside.connections.items c.self.inside.bodies.items c.self.inside.channels.items in
    let new : NetValue g.row.K.Denot = net_with c.self.inside.connections.items c.turn_of.new.bodies c.turn_of.new.channels in
    let turns : TurnsNet old c.args.process (level_of old c.args.process) c.args.stamp c.turn_of.result new =
    turns-with c.self.inside.connections.items c.self.inside.bodies.items c.turn_of.new.bodies c.self.inside.channels.items c.turn_of.new.channels c.args.process (level_of old c.args.process) c.args.stamp c.turn_of.result (rw (c.deref_mut.ensures.value, c.deref_mut-2.ensures.value) at c.turn_of.ensures) in
    let next : c.args.stamp ≡ turns_made old = c.requires.next ∙ ap turns_made (sym c.self.view_is) in
    rw (bodies, channels) (record {
      fit = fit-answer g.K.Component.rules old c.args.process (level_of old c.args.process) c.args.stamp c.turn_of.result new turns next c.self.invariant.fit;
      planned = planned-answer old c.args.process (level_of old c.args.process) c.args.stamp c.turn_of.result new turns c.self.invariant.planned;
    })

pub returns : goal.returns
returns g c =
    let bodies = with_items_is c.self.inside.bodies c.turn_of.new.bodies (search rules) in
    let channels = with_items_is c.self.inside.channels c.turn_of.new.channels (search rules) in
    let old : NetValue g.row.K.Denot = net_with c.self.inside.connections.items c.self.inside.bodies.items c.self.inside.channels.items in
    let new : NetValue g.row.K.Denot = net_with c.self.inside.connections.items c.turn_of.new.bodies c.turn_of.new.channels in
    let turns : TurnsNet old c.args.process (level_of old c.args.process) c.args.stamp c.turn_of.result new =
    turns-with c.self.inside.connections.items c.self.inside.bodies.items c.turn_of.new.bodies c.self.inside.channels.items c.turn_of.new.channels c.args.process (level_of old c.args.process) c.args.stamp c.turn_of.result (rw (c.deref_mut.ensures.value, c.deref_mut-2.ensures.value) at c.turn_of.ensures) in
    let next : c.args.stamp ≡ turns_made old = c.requires.next ∙ ap turns_made (sym c.self.view_is) in
    record { turns = rw (← c.self.view_is, bodies, channels) turns; goes = rw (← c.self.view_is, bodies, channels) (λ event turn. goes-by g.K.Component.rules old c.args.process (level_of old c.args.process) event c.args.stamp new turn); few = rw bodies (turns-most g.K.Component.rules new (fit-answer g.K.Component.rules old c.args.process (level_of old c.args.process) c.args.stamp c.turn_of.result new turns next c.self.invariant.fit)) }
