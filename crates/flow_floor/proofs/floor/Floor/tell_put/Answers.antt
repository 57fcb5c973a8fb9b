use Rattle.std.proofs.Common.{◌≡◌, ◌∙◌, ℕ, List, [], ◌∷◌, ◌++◌, None, Some, drop, slice_get, refl, sym, ap, subst, arith, append-nil}
use Rattle.std.specs.Option.{option_map}
use Rattle.flow_floor.specs.Plans.{receiver_at}
use Rattle.flow_floor.proofs.Plans.{receiver_at-is}
use Rattle.flow_floor.specs.declared.board.Sending.{Sending}
use Rattle.flow_floor.specs.Ends.{sending_at}
use Rattle.flow_floor.specs.Midway.{put_at, IsMidway}
use Rattle.flow_floor.specs.Views.{exiting, publishing}
use Rattle.flow_floor.specs.Workers.{view, IsWaking}
use Rattle.flow_floor.proofs.Rolls.{readies-more, readies-none}
use Rattle.flow_floor.proofs.Holding.{waking-none}
use Rattle.flow_floor.proofs.Midways.{midway-next, midway-seated, waking-midway}
use Rattle.flow_floor.proofs.Planned.{connection-at, connection-there, receiver-low, receivers-noted}
use Rattle.flow_floor.proofs.floor.Floor.tell_put.Goals as goal
use Rattle.flow_floor.proofs.floor.Floor.tell_put.Goals.{After-index, After-publish, After-depart}

-- what the plan says of the connection
at : (g : _) (c : After-index g) → slice_get c.args.self.now.plan.items c.args.connection ≡ Some c.index.result.now
at g c = connection-at c.args.self.now c.args.connection c.index.result.now c.requires.range c.index.ensures

pub index-requires : goal.index-requires
index-requires g c = omega (arith, connection-there c.args.self.now c.args.connection c.requires.range)

pub publish-requires-clause-seated : goal.publish-requires-clause-seated
publish-requires-clause-seated g c = let f = c.args.self.now in midway-seated g.K.Component.rules f.table.shared.table_id f.layout.processes c.args.worker.now c.args.held.now _ _ _ c.requires.held

pub publish-requires-clause-put : goal.publish-requires-clause-put
publish-requires-clause-put g c = (put_at c.args.connection, c.requires.held.sends, refl, refl, refl)

pub publish-requires-clause-noted : goal.publish-requires-clause-noted
publish-requires-clause-noted g c = receivers-noted c.args.self.now c.args.connection c.index.result.now (at g (goal.at.publish-requires-clause-noted g c).After-index)

-- all is told, and the receiver is noted
told : (g : _) (c : After-publish g) → IsMidway g.K.Component.rules c.args.self.now.table.shared.table_id c.args.self.now.layout.processes c.publish.new.worker c.args.held.now (Some (sending_at c.args.connection)) None (receiver_at c.args.self.now.plan.items c.args.connection)
told g c = let f = c.args.self.now in let q = c.requires.held in let notes = receiver_at f.plan.items c.args.connection in
    midway-next g.K.Component.rules f.table.shared.table_id f.layout.processes c.args.worker.now c.publish.new.worker c.args.held.now (Some (put_at c.args.connection)) (Some (sending_at c.args.connection)) None None [] notes (publishing (view c.args.worker.now) notes) q c.publish.ensures.seated c.publish.ensures.view refl
    (ap (option_map (λ (x : Sending). record x { unpublished = 0 })) q.sends) q.receives (ap (λ (xs : List ℕ). notes ++ xs) q.noted ∙ append-nil notes)

pub depart-requires-clause-told : goal.depart-requires-clause-told
depart-requires-clause-told g c = let q = told g (goal.at.depart-requires-clause-told g c).After-publish in (sending_at c.args.connection, q.sends, refl, record { placed = refl; out = refl; published = refl; subtracted = refl })

-- it is still to be woken
waking : (g : _) (c : After-depart g) → IsMidway g.K.Component.rules c.args.self.now.table.shared.table_id c.args.self.now.layout.processes c.publish.new.worker c.args.held.now (Some (sending_at c.args.connection)) None (receiver_at c.args.self.now.plan.items c.args.connection) → slice_get c.args.self.now.plan.items c.args.connection ≡ Some c.index.result.now
    → IsWaking g.K.Component.rules c.args.self.now.table.shared.table_id c.args.self.now.layout.processes c.depart.new.worker c.args.held.now (c.index.result.now.receiver ∷ [])
waking g c q there = let f = c.args.self.now in let notes = receiver_at f.plan.items c.args.connection in let e = c.depart.ensures in
    waking-midway g.K.Component.rules f.table.shared.table_id f.layout.processes c.depart.new.worker c.args.held.now (c.index.result.now.receiver ∷ [])
    (midway-next g.K.Component.rules f.table.shared.table_id f.layout.processes c.publish.new.worker c.depart.new.worker c.args.held.now (Some (sending_at c.args.connection)) None None None notes (c.index.result.now.receiver ∷ []) (exiting (view c.publish.new.worker)) q e.seated e.view refl refl q.receives
    (q.noted ∙ receiver_at-is f.plan.items c.args.connection c.index.result.now there))

pub wake-requires-clause-waking : goal.wake-requires-clause-waking
wake-requires-clause-waking g c = let f = c.args.self.now in let all = goal.at.wake-requires-clause-waking g c in
    let q = waking g all.After-depart (told g all.After-publish) (at g all.After-index) in
    subst (IsWaking g.K.Component.rules f.table.shared.table_id f.layout.processes c.depart.new.worker c.args.held.now) (ap (λ (xs : List ℕ). c.index.result.now.receiver ∷ drop 1 xs) (sym q.noted)) q

pub wake-requires-clause-below : goal.wake-requires-clause-below
wake-requires-clause-below g c = receiver-low c.args.self.now c.args.connection c.index.result.now (at g (goal.at.wake-requires-clause-below g c).After-index)

pub returns-clause-held : goal.returns-clause-held
returns-clause-held g c = let f = c.args.self.now in let all = goal.at.returns-clause-held g c in
    let q = waking g all.After-depart (told g all.After-publish) (at g all.After-index) in
    waking-none g.K.Component.rules f.table.shared.table_id f.layout.processes c.wake.new.worker c.args.held.now
    (subst (IsWaking g.K.Component.rules f.table.shared.table_id f.layout.processes c.wake.new.worker c.args.held.now) (ap (drop 1) q.noted) c.wake.ensures.waking)

pub returns-clause-readies : goal.returns-clause-readies
returns-clause-readies g c = let f = c.args.self.now in let e = c.publish.ensures in let d = c.depart.ensures in
    readies-more f c.args.worker.now c.depart.new.worker c.wake.new.worker
    (readies-none f c.args.worker.now c.depart.new.worker (d.woken ∙ e.woken ∙ c.requires.clear) (ap (λ v. v.readied) d.view ∙ ap (λ v. v.readied) e.view)) c.wake.ensures.one
