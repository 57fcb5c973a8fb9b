use Rattle.std.proofs.Common.{◌≡◌, ◌+◌, ◌<◌, ◌∙◌, ℕ, List, Some, get_or, arith, ap, refl, sym, subst}
use Rattle.flow_floor.specs.declared.floor.Held.{Held}
use Rattle.flow_floor.specs.Bursting.{packets_at, IsInBurst}
use Rattle.flow_floor.specs.Ends.{capacities_of}
use Rattle.flow_floor.specs.Views.{seeing}
use Rattle.flow_floor.specs.Workers.{view, IsSeated}
use Rattle.flow_floor.proofs.Bursting.{burst-looked, burst-sent, fits-at}
use Rattle.flow_floor.proofs.Further.{seeing-further}
use Rattle.flow_floor.proofs.Gated.{sent-turned}
use Rattle.flow_ring.proofs.Rounds.{get-default}
use Rattle.flow_floor.proofs.Turnings.{sent-may, sent-turns}
use Rattle.flow_floor.proofs.floor.Floor.send_on.Goals as goal
use Rattle.flow_floor.proofs.floor.Floor.send_on.Goals.{After-index-most}

-- the capacity that was read
most-is : (g : _) (c : After-index-most g) → c.index-most.result.now ≡ get_or (capacities_of c.args.self.now.table.shared.key.value) c.args.connection 0
most-is g c = let f = c.args.self.now in let most = c.index-most.result.now in
    c.index-most.ensures ∙ get-default f.layout.capacities.items c.args.connection most 0 (omega (arith, c.requires.1.1.1.0, f.layout.counted)) ∙ ap (λ (xs : List ℕ). get_or xs c.args.connection 0) f.capacities

pub place-requires-clause-fits : goal.place-requires-clause-fits
place-requires-clause-fits g c = let f = c.args.self.now in let e = c.come_to.ensures in
    let most = most-is g (goal.at.place-requires-clause-fits g c).After-index-most in
    let fits = fits-at (capacities_of f.table.shared.key.value) c.args.connection c.come_to.new.ends.output e.burst.fits (e.came c.if-not-come_to.false) in
    omega (arith, most, fits, c.packets-placed.ensures)

pub effect-requires-clause-effect : goal.effect-requires-clause-effect
effect-requires-clause-effect g c = sent-may c.args.held.now c.place.new.held c.args.port _ c.requires.1.1.1.1.0 c.in-Put.ensures.placed.3

pub returns-in-Full-clause-burst : goal.returns-in-Full-clause-burst
returns-in-Full-clause-burst g c = let f = c.args.self.now in let e = c.in-Full.ensures in let full = e.placed in let w = c.come_to.new.worker in let w' = c.place.new.worker in let h = c.args.held.now in let ends = c.come_to.new.ends in
    let capacities = capacities_of f.table.shared.key.value in let i = f.layout.processes + c.args.connection in
    subst (λ (x : Held _). IsInBurst g.K.Component.rules f.table.shared.table_id f.layout.processes f.layout.connections capacities g.began w' x ends) (sym full.1)
    (burst-looked g.K.Component.rules f.table.shared.table_id f.layout.processes f.layout.connections capacities g.began w w' h ends (seeing (view w) i c.in-Full.field-0) c.come_to.ensures.burst
    (subst (λ (x : Held _). IsSeated f.table.shared.table_id f.layout.processes w' x) full.1 e.seated) full.2 (seeing-further (view w) i c.in-Full.field-0) refl refl refl)

pub returns-in-Put-clause-burst : goal.returns-in-Put-clause-burst
returns-in-Put-clause-burst g c = let f = c.args.self.now in let e = c.in-Put.ensures in let o = e.placed in let w = c.come_to.new.worker in let w' = c.place.new.worker in let h = c.args.held.now in let mid = c.place.new.held in let ends = c.come_to.new.ends in
    let capacities = capacities_of f.table.shared.key.value in
    let h' : Held _ = record mid { body = c.effect.new.self } in
    let most = most-is g (goal.at.returns-in-Put-clause-burst g c).After-index-most in
    let there = c.come_to.ensures.came c.if-not-come_to.false in
    let room : packets_at ends.output < get_or capacities c.args.connection 0 = omega (arith, most, o.0, c.packets-placed.ensures) in
    subst (λ k. IsInBurst g.K.Component.rules f.table.shared.table_id f.layout.processes f.layout.connections capacities g.began w' h' (record ends { output = Some (record { connection = c.args.connection; packets = k + 1 }) })) (sym c.packets-placed.ensures)
    (burst-sent g.K.Component.rules f.table.shared.table_id f.layout.processes f.layout.connections capacities g.began w w' h mid h' ends c.args.connection o.1 _ c.args.port _ c.come_to.ensures.burst (λ none. c.requires.1.1.0 (sym c.come_to.ensures.same ∙ none)) there room c.requires.1.1.1.0
    c.requires.1.1.1.1.0 c.requires.1.1.1.1.1.0 e.seated o.2 o.3 c.effect.ensures refl)

pub returns-in-Put-clause-turned : goal.returns-in-Put-clause-turned
returns-in-Put-clause-turned g c made = sent-turned c.args.held.now.body c.place.new.held.body c.effect.new.self _ (sent-turns c.args.held.now c.place.new.held c.args.port _ c.requires.1.1.1.1.0 c.in-Put.ensures.placed.3) c.effect.ensures
