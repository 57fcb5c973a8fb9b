use Rattle.std.proofs.Common.{◌≡◌, ◌<◌, refl, sym, Some, slice_get, length, subst, slice_set}
use Rattle.std.proofs.lemmas.Option.{slice_get_read}
use Rattle.flow_machine.specs.Values.{NetValue, net_with}
use Rattle.flow_machine.specs.NetSteps.{ThinksNet}
use Rattle.flow_machine.specs.Thoughts.{PassesFirst}
use Rattle.flow_machine.proofs.NetTurns.{some_if}
use Rattle.flow_machine.proofs.FitLemmas.{fit-think, same-turns, thinks-step}
use Rattle.flow_machine.proofs.Planning.{planned-kept, wires-set}
use Rattle.flow_machine.proofs.net.Net.think.Goals as goal

pub think-requires : goal.think-requires
think-requires g c =
    let within : c.args.process < length c.self.inside.bodies.items = subst (λ (n : NetValue g.row.K.Denot). c.args.process < length n.bodies) (sym c.self.view_is) c.requires in
    let there : slice_get c.self.inside.bodies.items c.args.process ≡ Some c.index_mut.result.now = slice_get_read c.self.inside.bodies.items (length c.self.inside.bodies.items) c.args.process c.index_mut.result.now refl within c.index_mut.ensures.value in
    c.self.invariant.fit.whole c.args.process c.index_mut.result.now there

pub invariant_of-self : goal.invariant_of-self
invariant_of-self g c =
    let within : c.args.process < length c.self.inside.bodies.items = subst (λ (n : NetValue g.row.K.Denot). c.args.process < length n.bodies) (sym c.self.view_is) c.requires in
    let there : slice_get c.self.inside.bodies.items c.args.process ≡ Some c.index_mut.result.now = slice_get_read c.self.inside.bodies.items (length c.self.inside.bodies.items) c.args.process c.index_mut.result.now refl within c.index_mut.ensures.value in
    let old : NetValue g.row.K.Denot = net_with c.self.inside.connections.items c.self.inside.bodies.items c.self.inside.channels.items in
    let new : NetValue g.row.K.Denot = net_with c.self.inside.connections.items (slice_set c.self.inside.bodies.items c.args.process c.think.new.self) c.self.inside.channels.items in
    let thinks : ThinksNet g.K.Component.rules old c.args.process c.think.result new = record { before = c.index_mut.result.now; after = c.think.new.self; there = there; thinks = c.think.ensures.thinks; keeps = c.think.ensures.keeps; bodies = refl; channels = refl; connections = refl } in
    let same = same-turns g.K.Component.rules g.met.K.Component.lawful c.index_mut.result.now c.think.new.self (thinks-step g.K.Component.rules c.index_mut.result.now c.think.result c.think.new.self c.think.ensures.thinks) in
    record {
      fit = fit-think g.K.Component.rules g.met.K.Component.lawful old c.args.process c.think.result new thinks c.self.invariant.fit;
      planned = planned-kept old new refl (wires-set c.self.inside.bodies.items c.args.process c.index_mut.result.now c.think.new.self there same.1 same.2 same.3) refl c.self.invariant.planned;
    }

pub returns-clause-thinks : goal.returns-clause-thinks
returns-clause-thinks g c =
    let within : c.args.process < length c.self.inside.bodies.items = subst (λ (n : NetValue g.row.K.Denot). c.args.process < length n.bodies) (sym c.self.view_is) c.requires in
    let there : slice_get c.self.inside.bodies.items c.args.process ≡ Some c.index_mut.result.now = slice_get_read c.self.inside.bodies.items (length c.self.inside.bodies.items) c.args.process c.index_mut.result.now refl within c.index_mut.ensures.value in
    let old : NetValue g.row.K.Denot = net_with c.self.inside.connections.items c.self.inside.bodies.items c.self.inside.channels.items in
    let new : NetValue g.row.K.Denot = net_with c.self.inside.connections.items (slice_set c.self.inside.bodies.items c.args.process c.think.new.self) c.self.inside.channels.items in
    let thinks : ThinksNet g.K.Component.rules old c.args.process c.think.result new = record { before = c.index_mut.result.now; after = c.think.new.self; there = there; thinks = c.think.ensures.thinks; keeps = c.think.ensures.keeps; bodies = refl; channels = refl; connections = refl } in
    rw (← c.self.view_is) thinks

pub returns-clause-passed : goal.returns-clause-passed
returns-clause-passed g c =
    let within : c.args.process < length c.self.inside.bodies.items = subst (λ (n : NetValue g.row.K.Denot). c.args.process < length n.bodies) (sym c.self.view_is) c.requires in
    let there : slice_get c.self.inside.bodies.items c.args.process ≡ Some c.index_mut.result.now = slice_get_read c.self.inside.bodies.items (length c.self.inside.bodies.items) c.args.process c.index_mut.result.now refl within c.index_mut.ensures.value in
    rw (← c.self.view_is) (some_if (slice_get c.self.inside.bodies.items c.args.process) (PassesFirst (g.G.Gate.has_passed c.args.gate.now)) c.index_mut.result.now there c.think.ensures.passed)
