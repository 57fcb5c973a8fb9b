use Rattle.std.proofs.Common.{◌≡◌, ◌+◌, [], None, Some, get_or, length, refl, sym, ap, ◌∙◌, subst, arith, ℕ, List, Option}
use Rattle.flow_model.specs.Events.{Sends}
use Rattle.flow_floor.specs.declared.board.Receiving.{Receiving}
use Rattle.flow_floor.specs.declared.board.Sending.{Sending}
use Rattle.flow_floor.specs.declared.floor.Held.{Held}
use Rattle.flow_floor.specs.Ends.{capacities_of, sending_at, HasWithdrawn, MayPlace}
use Rattle.flow_floor.specs.Midway.{placed_at, IsMidway}
use Rattle.flow_floor.specs.Plays.{placed_count}
use Rattle.flow_floor.specs.Views.{filling, placing, seeing}
use Rattle.flow_floor.specs.Workers.{view, IsSeated}
use Rattle.flow_floor.proofs.Midways.{makes-after, makes-one, may-one, midway-next, midway-seated, midway-turned, placed-there}
use Rattle.flow_ring.proofs.Rounds.{get-default}
use Rattle.flow_floor.proofs.Seated.{seated-out}
use Rattle.flow_floor.proofs.Turnings.{send-happens, sent-may, sent-roomy, sent-turn}
use Rattle.flow_floor.proofs.floor.Floor.send_as.Goals as goal
use Rattle.flow_floor.proofs.floor.Floor.send_as.Goals.{After-index-most, In-Put, After-stamp-stamp}

pub index-most-requires : goal.index-most-requires
index-most-requires g c = let f = c.args.self.now in omega (arith, c.requires.range, f.layout.counted)

-- the capacity that was read
most-is : (g : _) (c : After-index-most g) → c.index-most.result.now ≡ get_or (capacities_of c.args.self.now.table.shared.key.value) c.args.connection 0
most-is g c = let f = c.args.self.now in let most = c.index-most.result.now in
    c.index-most.ensures ∙ get-default f.layout.capacities.items c.args.connection most 0 (omega (arith, c.requires.range, f.layout.counted)) ∙ ap (λ (xs : List ℕ). get_or xs c.args.connection 0) f.capacities

pub place-requires-clause-spot : goal.place-requires-clause-spot
place-requires-clause-spot g c = let b = c.requires.spot in (b.0, b.1, b.2, b.3 ∙ sym (most-is g (goal.at.place-requires-clause-spot g c).After-index-most))

pub place-requires-clause-most : goal.place-requires-clause-most
place-requires-clause-most g c = most-is g (goal.at.place-requires-clause-most g c).After-index-most

pub place-requires-clause-seated : goal.place-requires-clause-seated
place-requires-clause-seated g c = let f = c.args.self.now in midway-seated g.K.Component.rules f.table.shared.table_id f.layout.processes c.args.worker.now c.args.held.now _ _ _ c.requires.held

pub place-requires-clause-withdrawn : goal.place-requires-clause-withdrawn
place-requires-clause-withdrawn g c = subst (λ (o : Option Receiving). HasWithdrawn o) (sym c.requires.held.receives) tt

pub place-requires-clause-may : goal.place-requires-clause-may
place-requires-clause-may g c = subst (λ (o : Option Sending). MayPlace c.args.connection o) (sym c.requires.held.sends) (refl, refl, refl)

pub place-requires-clause-count : goal.place-requires-clause-count
place-requires-clause-count g c = ap placed_count c.requires.held.sends

pub returns-in-Full-clause-sent : goal.returns-in-Full-clause-sent
returns-in-Full-clause-sent g c = let f = c.args.self.now in let q = c.requires.held in let e = c.in-Full.ensures in let full = e.placed in
    let most = most-is g (goal.at.returns-in-Full-clause-sent g c).After-index-most in
    let h = c.args.held.now in
    let w = c.place.new.worker in
    let seat = subst (λ (x : Held _). IsSeated f.table.shared.table_id f.layout.processes w x) full.1 e.seated in
    let there = midway-next g.K.Component.rules f.table.shared.table_id f.layout.processes c.args.worker.now w h (Some (sending_at c.args.connection)) (Some (sending_at c.args.connection)) None None [] [] (seeing (view c.args.worker.now) (f.layout.processes + c.args.connection) c.in-Full.word) q seat full.2 refl q.sends q.receives q.noted in (
      omega (arith, most, full.0),
      full.1,
      subst (λ (x : Held _). IsMidway g.K.Component.rules f.table.shared.table_id f.layout.processes w x (Some (sending_at c.args.connection)) None []) (sym full.1) there,
      full.2,
    )

-- the worker has placed the packet, and has the body as it was before
placed-so : (g : _) (c : In-Put g) → IsMidway g.K.Component.rules c.args.self.now.table.shared.table_id c.args.self.now.layout.processes c.place.new.worker c.args.held.now (Some (placed_at c.args.connection g.B.Parcel.packet)) None []
placed-so g c = let f = c.args.self.now in let q = c.requires.held in let e = c.in-Put.ensures in let o = e.placed in let h = c.args.held.now in let v = view c.args.worker.now in
    midway-next g.K.Component.rules f.table.shared.table_id f.layout.processes c.args.worker.now c.place.new.worker h (Some (sending_at c.args.connection)) (Some (placed_at c.args.connection g.B.Parcel.packet)) None None [] [] (filling (placing v o.1 g.B.Parcel.packet)) q
    (seated-out f.table.shared.table_id f.layout.processes c.place.new.worker c.place.new.held h (sym o.3.0) e.seated) o.2 refl (placed-there v c.args.connection o.1 g.B.Parcel.packet q.sends) q.receives q.noted

pub stamp-stamp-requires-clause-count : goal.stamp-stamp-requires-clause-count
stamp-stamp-requires-clause-count g c = ap (λ ts. length ts) c.requires.deed.0

pub stamp-stamp-requires-clause-pending : goal.stamp-stamp-requires-clause-pending
stamp-stamp-requires-clause-pending g c = let f = c.args.self.now in let h = c.args.held.now in let packet = g.B.Parcel.packet in let o = c.in-Put.ensures.placed in
    may-one g.K.Component.rules f.table.shared.table_id f.layout.processes f.layout.connections c.place.new.worker h (Some (placed_at c.args.connection packet)) None [] (Sends c.args.port.0 c.args.connection packet) g.D.Deed.turns
    (placed-so g (goal.at.stamp-stamp-requires-clause-pending g c).In-Put) c.requires.deed.0 (placed_at c.args.connection packet, refl, refl, refl, refl)
    (send-happens _ _ _ _ c.args.connection c.args.port h.body _ packet None c.requires.stage c.requires.output o.3.2)

pub effect-requires-clause-room : goal.effect-requires-clause-room
effect-requires-clause-room g c = sent-roomy c.args.held.now c.place.new.held c.args.port g.B.Parcel.packet c.requires.stage c.in-Put.ensures.placed.3 c.requires.room

pub effect-requires-clause-effect : goal.effect-requires-clause-effect
effect-requires-clause-effect g c = sent-may c.args.held.now c.place.new.held c.args.port g.B.Parcel.packet c.requires.stage c.in-Put.ensures.placed.3

pub returns-in-Put-clause-sent : goal.returns-in-Put-clause-sent
returns-in-Put-clause-sent g c = let f = c.args.self.now in let h = c.args.held.now in let packet = g.B.Parcel.packet in let o = c.in-Put.ensures.placed in let s = c.stamp-stamp.ensures in
    let all = goal.at.returns-in-Put-clause-sent g c in
    let q = placed-so g all.In-Put in
    let e = Sends c.args.port.0 c.args.connection packet in
    let mid = c.place.new.held in
    let d : Held _ = record mid { body = c.effect.new.self } in
    let turn = sent-turn h mid c.effect.new.self c.args.port c.args.connection c.stamp-stamp.result packet c.requires.stage o.3 c.effect.ensures in
    let w = c.place.new.worker in (
      midway-turned g.K.Component.rules f.table.shared.table_id f.layout.processes w c.stamp-stamp.new.worker h d (Some (placed_at c.args.connection packet)) None [] e c.stamp-stamp.result g.D.Deed.turns q
          (seated-out f.table.shared.table_id f.layout.processes c.stamp-stamp.new.worker mid h (sym o.3.0) s.seated) c.requires.deed.0 s.view turn o.3.0,
      makes-after g.K.Component.rules f.table.shared.key.value c.args.worker.now w c.stamp-stamp.new.worker h d e c.stamp-stamp.result (ap (λ v. v.made) o.2)
          (record { shares = ap (λ v. v.shares) o.2; zero = ap (λ v. v.read_zero) o.2; asked = ap (λ v. v.asked) o.2 }) (ap (λ v. v.readied) o.2) c.place.ensures.woken (ap (λ v. v.look) o.2)
          (makes-one g.K.Component.rules f.table.shared.key.value w c.stamp-stamp.new.worker h d e c.stamp-stamp.result g.D.Deed.turns q.agrees c.requires.deed.0 s.view s.above s.machine s.woken turn o.3.0),
    )
