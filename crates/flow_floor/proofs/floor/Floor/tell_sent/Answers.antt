use Rattle.std.proofs.Common.{◌∙◌, ℕ, List, [], ◌++◌, Option, None, Some, ap, append-nil, refl, subst, sym}
use Rattle.flow_floor.specs.Plans.{receiver_at}
use Rattle.flow_floor.proofs.Lists.{get-exists}
use Rattle.flow_floor.specs.declared.ends.End.{End}
use Rattle.flow_floor.specs.Bursting.{put_by, receivers_of, taken_by, IsEndBelow}
use Rattle.flow_floor.specs.Ends.{sending_at}
use Rattle.flow_floor.specs.Midway.{IsMidway}
use Rattle.flow_floor.specs.Views.{exiting, publishing}
use Rattle.flow_floor.specs.Workers.{view}
use Rattle.flow_floor.proofs.Midways.{midway-next}
use Rattle.flow_floor.proofs.Planned.{connection-there, receivers-noted}
use Rattle.flow_floor.proofs.Settling.{put-told, receivers-none, receivers-some}
use Rattle.flow_floor.proofs.floor.Floor.tell_sent.Goals as goal
use Rattle.flow_floor.proofs.floor.Floor.tell_sent.Goals.{After-publish}

pub returns-then-end-eq0-clause-held : goal.returns-then-end-eq0-clause-held
returns-then-end-eq0-clause-held g c = let f = c.args.self.now in let q = c.requires.held in let e = c.depart.ensures in let o = c.args.ends.now.output in let r = taken_by c.args.ends.now.input in let plan = f.plan.items in let w = c.args.worker.now in
    midway-next g.K.Component.rules f.table.shared.table_id f.layout.processes w c.depart.new.worker c.args.held.now (put_by o) None r r [] (receivers_of plan o) (exiting (view w)) q e.seated e.view refl refl q.receives
    (q.noted ∙ sym (receivers-none plan o c.in-Some.end c.in-Some.is c.if-end-eq0.true))

pub publish-requires-clause-noted : goal.publish-requires-clause-noted
publish-requires-clause-noted g c = let f = c.args.self.now in
    let there = get-exists f.plan.items c.in-Some.end.connection (connection-there f c.in-Some.end.connection (subst (λ (x : Option End). IsEndBelow f.layout.connections x) c.in-Some.is c.requires.range)) in
    receivers-noted f c.in-Some.end.connection there.0 there.1

-- all is told, and the receiver is noted
told : (g : _) (c : After-publish g) → IsMidway g.K.Component.rules c.args.self.now.table.shared.table_id c.args.self.now.layout.processes c.publish.new.worker c.args.held.now (Some (sending_at c.in-Some.end.connection)) (taken_by c.args.ends.now.input) (receiver_at c.args.self.now.plan.items c.in-Some.end.connection)
told g c = let f = c.args.self.now in let q = c.requires.held in let e = c.publish.ensures in let o = c.args.ends.now.output in let r = taken_by c.args.ends.now.input in let w = c.args.worker.now in let at = c.in-Some.end.connection in let notes = receiver_at f.plan.items at in
    midway-next g.K.Component.rules f.table.shared.table_id f.layout.processes w c.publish.new.worker c.args.held.now (put_by o) (Some (sending_at at)) r r [] notes (publishing (view w) notes) q e.seated e.view refl (put-told o c.in-Some.end (view w).sending c.in-Some.is q.sends) q.receives
    (ap (λ (xs : List ℕ). notes ++ xs) q.noted ∙ append-nil notes)

pub depart-requires-2-clause-told : goal.depart-requires-2-clause-told
depart-requires-2-clause-told g c = let q = told g (goal.at.depart-requires-2-clause-told g c).After-publish in (sending_at c.in-Some.end.connection, q.sends, refl, record { placed = refl; out = refl; published = refl; subtracted = refl })

pub returns-clause-held : goal.returns-clause-held
returns-clause-held g c = let f = c.args.self.now in let e = c.depart-2.ensures in let o = c.args.ends.now.output in let r = taken_by c.args.ends.now.input in let w = c.publish.new.worker in let at = c.in-Some.end.connection in let plan = f.plan.items in
    let q = told g (goal.at.returns-clause-held g c).After-publish in
    midway-next g.K.Component.rules f.table.shared.table_id f.layout.processes w c.depart-2.new.worker c.args.held.now (Some (sending_at at)) None r r (receiver_at plan at) (receivers_of plan o) (exiting (view w)) q e.seated e.view refl refl q.receives
    (q.noted ∙ sym (receivers-some plan o c.in-Some.end c.in-Some.is c.if-end-eq0.false))
