use Rattle.std.proofs.Common.{rules, ◌≡◌, [], sym, ◌∙◌, ap}
use Rattle.std.proofs.lemmas.List.{with_items_is}
use Rattle.flow_machine.specs.Values.{NetValue, net_with}
use Rattle.flow_machine.specs.Nets.{SeesNet}
use Rattle.flow_machine.specs.Logs.{turns_made}
use Rattle.flow_machine.proofs.FitLemmas.{fit-seen, goes-by}
use Rattle.flow_machine.proofs.Planning.{planned-seen}
use Rattle.flow_machine.proofs.Wholes.{fit-with, sees-with}
use Rattle.flow_machine.proofs.net.Net.turn_seen.Goals as goal

pub seen_of-requires-clause-fit : goal.seen_of-requires-clause-fit
seen_of-requires-clause-fit g c = rw (c.deref_mut.ensures.value, c.deref.ensures.value) (fit-with g.K.Component.rules c.self.inside.connections.items [] c.self.inside.bodies.items c.self.inside.channels.items c.self.invariant.fit)

pub invariant_of-self : goal.invariant_of-self
invariant_of-self g c =
    let bodies = with_items_is c.self.inside.bodies c.seen_of.new.bodies (search rules) in
    let old : NetValue g.row.K.Denot = net_with c.self.inside.connections.items c.self.inside.bodies.items c.self.inside.channels.items in
    let new : NetValue g.row.K.Denot = net_with c.self.inside.connections.items c.seen_of.new.bodies c.self.inside.channels.items in
    let sees : SeesNet old c.args.process c.args.seen c.args.stamp c.seen_of.result new =
    sees-with c.self.inside.connections.items c.self.inside.bodies.items c.seen_of.new.bodies c.self.inside.channels.items c.self.inside.channels.items c.args.process c.args.seen c.args.stamp c.seen_of.result (rw (c.deref_mut.ensures.value, c.deref.ensures.value) at c.seen_of.ensures) in
    let next : c.args.stamp ≡ turns_made old = c.requires.next ∙ ap turns_made (sym c.self.view_is) in
    rw bodies (record {
      fit = fit-seen g.K.Component.rules old c.args.process c.args.seen c.args.stamp c.seen_of.result new sees next c.self.invariant.fit;
      planned = planned-seen old c.args.process c.args.seen c.args.stamp c.seen_of.result new sees c.self.invariant.planned;
    })

pub returns : goal.returns
returns g c =
    let bodies = with_items_is c.self.inside.bodies c.seen_of.new.bodies (search rules) in
    let old : NetValue g.row.K.Denot = net_with c.self.inside.connections.items c.self.inside.bodies.items c.self.inside.channels.items in
    let new : NetValue g.row.K.Denot = net_with c.self.inside.connections.items c.seen_of.new.bodies c.self.inside.channels.items in
    let sees : SeesNet old c.args.process c.args.seen c.args.stamp c.seen_of.result new =
    sees-with c.self.inside.connections.items c.self.inside.bodies.items c.seen_of.new.bodies c.self.inside.channels.items c.self.inside.channels.items c.args.process c.args.seen c.args.stamp c.seen_of.result (rw (c.deref_mut.ensures.value, c.deref.ensures.value) at c.seen_of.ensures) in
    record { sees = rw (← c.self.view_is, bodies) sees; goes = rw (← c.self.view_is, bodies) (λ event turn. goes-by g.K.Component.rules old c.args.process c.args.seen event c.args.stamp new turn) }
