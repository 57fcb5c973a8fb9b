use Rattle.std.proofs.Common.{◌+◌, ◌∙◌, [], None, Some, refl, sym, ap, subst, arith, Option}
use Rattle.std.specs.Option.{option_map}
use Rattle.flow_ring.specs.Words.{level_in}
use Rattle.flow_floor.specs.declared.board.Receiving.{Receiving}
use Rattle.flow_floor.specs.declared.board.Sending.{Sending}
use Rattle.flow_floor.specs.Ends.{sending_at, HasWithdrawn}
use Rattle.flow_floor.specs.Midway.{learnt_at}
use Rattle.flow_floor.specs.Views.{exiting, learning}
use Rattle.flow_floor.specs.Workers.{view}
use Rattle.flow_floor.proofs.Came.{at-level, is-busy, is-made}
use Rattle.flow_floor.proofs.Rolls.{readies-none}
use Rattle.flow_floor.proofs.Midways.{held-midway, midway-next, midway-seated}
use Rattle.flow_floor.proofs.floor.Floor.level_turn.Goals as goal

pub arrive-requires-clause-output : goal.arrive-requires-clause-output
arrive-requires-clause-output g c = (c.args.port.0, c.requires.output)

pub returns-in-Some-clause-turned : goal.returns-in-Some-clause-turned
returns-in-Some-clause-turned g c = let f = c.args.self.now in let b = c.args.held.now.body in let e = c.in-Some.ensures.came in let v = view c.args.worker.now in (
  (refl, ap (λ v. v.made) e.3),
  is-busy f.layout.processes f.layout.connections f.table.shared.key.value b v (view c.arrive.new.worker) c.args.connection c.in-Some.word (at-level b.process c.args.port c.args.connection c.requires.stage c.requires.output) e.1 c.requires.held.calm.sending e.2 e.3,
)

pub learn-word-requires-clause-seated : goal.learn-word-requires-clause-seated
learn-word-requires-clause-seated g c = let f = c.args.self.now in midway-seated g.K.Component.rules f.table.shared.table_id f.layout.processes c.arrive.new.worker c.args.held.now _ _ _ c.in_default.ensures.came.0

pub learn-word-requires-clause-withdrawn : goal.learn-word-requires-clause-withdrawn
learn-word-requires-clause-withdrawn g c = subst (λ (o : Option Receiving). HasWithdrawn o) (sym c.in_default.ensures.came.0.receives) tt

pub learn-word-requires-clause-whole : goal.learn-word-requires-clause-whole
learn-word-requires-clause-whole g c = (sending_at c.args.connection, c.in_default.ensures.came.0.sends, refl, refl)

pub learn_as-stamp-requires-clause-held : goal.learn_as-stamp-requires-clause-held
learn_as-stamp-requires-clause-held g c = let f = c.args.self.now in let q = c.in_default.ensures.came.0 in let e = c.learn-word.ensures in let word = c.learn-word.result in let v = view c.arrive.new.worker in
    midway-next g.K.Component.rules f.table.shared.table_id f.layout.processes c.arrive.new.worker c.learn-word.new.worker c.args.held.now (Some (sending_at c.args.connection)) (Some (learnt_at c.args.connection c.level.result)) None None [] [] (learning v (f.layout.processes + c.args.connection) word) q e.seated e.view refl
    (ap (option_map (λ (x : Sending). record x { learnt = Some (level_in word) })) q.sends ∙ (λ i. Some (learnt_at c.args.connection (sym c.level.ensures.word i)))) q.receives q.noted

pub depart-requires-clause-seated : goal.depart-requires-clause-seated
depart-requires-clause-seated g c = let f = c.args.self.now in midway-seated g.K.Component.rules f.table.shared.table_id f.layout.processes c.learn_as-stamp.new.worker c.learn_as-stamp.new.held _ _ _ c.learn_as-stamp.ensures.held

pub depart-requires-clause-told : goal.depart-requires-clause-told
depart-requires-clause-told g c = (learnt_at c.args.connection c.level.result, c.learn_as-stamp.ensures.held.sends, refl, record { placed = refl; out = refl; published = refl; subtracted = refl })

pub returns-clause-held : goal.returns-clause-held
returns-clause-held g c = let f = c.args.self.now in let q = c.learn_as-stamp.ensures.held in let e = c.depart.ensures in
    held-midway g.K.Component.rules f.table.shared.table_id f.layout.processes c.depart.new.worker c.learn_as-stamp.new.held
    (midway-next g.K.Component.rules f.table.shared.table_id f.layout.processes c.learn_as-stamp.new.worker c.depart.new.worker c.learn_as-stamp.new.held (Some (learnt_at c.args.connection c.level.result)) None None None [] [] (exiting (view c.learn_as-stamp.new.worker)) q e.seated e.view refl refl q.receives q.noted)

pub returns-clause-turned : goal.returns-clause-turned
returns-clause-turned g c = let f = c.args.self.now in let a = c.in_default.ensures.came.1 in let l = c.learn-word.ensures.view in let t = c.learn_as-stamp.ensures.turn in let d = c.depart.ensures.view in
    let look = ap (λ v. v.look) d ∙ t.look ∙ ap (λ v. v.look) l in
    let steps = ap (λ v. v.steps) a in
    is-made g.K.Component.rules f.layout.processes f.layout.connections f.table.shared.key.value c.args.held.now c.learn_as-stamp.new.held c.args.worker.now c.learn-word.new.worker c.learn_as-stamp.new.worker c.depart.new.worker _ c.learn_as-stamp.result t
    (ap (λ v. v.made) l ∙ ap (λ v. v.made) a) (ap (λ v. v.made) d)
    (c.args.connection, c.learn-word.result, c.requires.output, (ap (λ x. x.word) look, ap (λ x. x.read) look, (let at = ap (λ x. x.at) look in omega (arith, at, steps))), c.level.ensures.word)

pub returns-clause-readies : goal.returns-clause-readies
returns-clause-readies g c = let a = c.in_default.ensures in let l = c.learn-word.ensures in let t = c.learn_as-stamp.ensures.turn in let d = c.depart.ensures in
    readies-none c.args.self.now c.args.worker.now c.depart.new.worker (d.woken ∙ t.woken ∙ l.woken ∙ a.woken ∙ c.requires.clear) (ap (λ v. v.readied) d.view ∙ t.readied ∙ ap (λ v. v.readied) l.view ∙ ap (λ v. v.readied) a.came.1)
