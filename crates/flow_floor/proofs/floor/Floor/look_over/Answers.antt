use Rattle.std.proofs.Common.{◌≡◌, ◌+◌, ◌<◌, arith, refl, sym, ap, ◌∙◌, subst, List, Option, ℕ}
use Rattle.flow_ring.specs.Words.{level_in}
use Rattle.flow_floor.specs.declared.board.Look.{Look}
use Rattle.flow_floor.specs.declared.board.Receiving.{Receiving}
use Rattle.flow_floor.specs.declared.floor.Worker.{Worker}
use Rattle.flow_floor.specs.Ends.{HasWithdrawn}
use Rattle.flow_floor.specs.Floors.{WakesNone}
use Rattle.flow_floor.specs.Looks.{Looked, first_open}
use Rattle.flow_floor.specs.Views.{look_at, seeing}
use Rattle.flow_floor.specs.Workers.{view, IsHeldBy, IsSameSeat, LooksOn}
use Rattle.flow_floor.proofs.Looking.{looked-skip, looked-more, looks-one, looks-then}
use Rattle.flow_floor.proofs.Holding.{held-seated}
use Rattle.flow_floor.proofs.Midways.{held-looked}
use Rattle.flow_floor.proofs.floor.Floor.look_over.Goals as goal
use Rattle.flow_floor.proofs.floor.Floor.look_over.Goals.{in-Some+else-level-ne0, in_default}

pub look-word-requires-clause-seated : goal.look-word-requires-clause-seated
look-word-requires-clause-seated g c = let f = c.args.self.now in held-seated g.K.Component.rules f.table.shared.table_id f.layout.processes c.loop-i.worker c.args.held.now c.loop-i.invariant.0

pub look-word-requires-clause-withdrawn : goal.look-word-requires-clause-withdrawn
look-word-requires-clause-withdrawn g c = subst (λ (o : Option Receiving). HasWithdrawn o) (sym c.loop-i.invariant.0.calm.receiving) tt

pub loop-i-preserved : goal.loop-i-preserved
loop-i-preserved g c =
    let f = c.args.self.now in
    let h = c.args.held.now in
    let old = view c.args.worker.now in
    let inv = c.loop-i.invariant in
    let n = f.layout.processes in
    let inputs = h.body.process.inputs in
    let at = c.input.ensures in
    let Goal : Worker g.row.K.Denot → Option ℕ → Type 0 = λ w o. IsHeldBy g.K.Component.rules f.table.shared.table_id n w h × LooksOn old (view w) × IsSameSeat old (view w) × Looked n old.steps (c.loop-i.i + 1) inputs (view w).seen o × WakesNone c.args.worker.now w in
    elim c.match-input.branch [
      | in-Some+else-level-ne0 w ↦ (let e = w.look-word.ensures in let r = w.look-word.result in
          let here = view c.loop-i.worker in
          let look = look_at here (n + w.in-Some.connection) r in
          let steps = inv.1.steps in
          let late : old.steps < look.at = omega (arith, steps) in
          let none_in : level_in r ≡ 0 = sym w.level.ensures.word ∙ w.if-level-ne0.false in
          subst (λ (x : Worker g.row.K.Denot). Goal x c.match-input.open) (sym w.worker-is) (subst (λ (o : Option ℕ). Goal w.look-word.new.worker o) (sym (w.open-is ∙ w.first_open-open.ensures)) (
            held-looked g.K.Component.rules f.table.shared.table_id n c.loop-i.worker w.look-word.new.worker h (seeing here (n + w.in-Some.connection) r) inv.0 e.seated e.view refl refl refl refl,
            looks-then old here (view w.look-word.new.worker) inv.1 (looks-one here (view w.look-word.new.worker) (n + w.in-Some.connection) r e.view),
            record { shares = ap (λ v. v.shares) e.view ∙ inv.2.shares; zero = ap (λ v. v.read_zero) e.view ∙ inv.2.zero; asked = ap (λ v. v.asked) e.view ∙ inv.2.asked },
            subst (λ (xs : List Look). Looked n old.steps (c.loop-i.i + 1) inputs xs (first_open c.loop-i.open r)) (sym (ap (λ v. v.seen) e.view))
                (looked-more n old.steps c.loop-i.i w.in-Some.connection inputs look here.seen c.loop-i.open inv.3 (at ∙ w.in-Some.is) refl late none_in),
            (ap (λ v. v.readied) e.view ∙ inv.4.0, e.woken ∙ inv.4.1),
          )))
      | in_default w ↦ subst (λ (x : Worker g.row.K.Denot). Goal x c.match-input.open) (sym w.worker-is) (subst (λ (o : Option ℕ). Goal c.loop-i.worker o) (sym w.open-is) (
        inv.0,
        inv.1,
        inv.2,
        looked-skip n old.steps c.loop-i.i inputs (view c.loop-i.worker).seen c.loop-i.open inv.3 (at ∙ w.in_default.is),
        inv.4,
      ))
    ]

pub returns-then-level-ne0-clause-held : goal.returns-then-level-ne0-clause-held
returns-then-level-ne0-clause-held g c = let f = c.args.self.now in let e = c.look-word.ensures in
    held-looked g.K.Component.rules f.table.shared.table_id f.layout.processes c.loop-i.worker c.look-word.new.worker c.args.held.now (seeing (view c.loop-i.worker) _ c.look-word.result) c.loop-i.invariant.0 e.seated e.view refl refl refl refl

pub returns-then-level-ne0-clause-looks : goal.returns-then-level-ne0-clause-looks
returns-then-level-ne0-clause-looks g c = looks-then (view c.args.worker.now) (view c.loop-i.worker) (view c.look-word.new.worker) c.loop-i.invariant.1 (looks-one (view c.loop-i.worker) (view c.look-word.new.worker) _ _ c.look-word.ensures.view)

pub returns-in-Some-open-clause-looks : goal.returns-in-Some-open-clause-looks
returns-in-Some-open-clause-looks g c = c.loop-i.invariant.1

pub returns-in-None-clause-looks : goal.returns-in-None-clause-looks
returns-in-None-clause-looks g c = c.loop-i.invariant.1
