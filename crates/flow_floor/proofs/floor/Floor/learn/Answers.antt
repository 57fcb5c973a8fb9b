use Rattle.std.proofs.Common.{◌≡◌, ◌+◌, ◌/◌, ◌≤◌, ℕ, arith, refl, sym, ap, ◌∙◌, subst}
use mathlib.Core.Option.{none}
use Rattle.atomic_table.specs.Table.{step}
use Rattle.flow_ring.specs.declared.layout.TheConstants.{SPACING}
use Rattle.flow_ring.specs.Words.{level_in}
use Rattle.flow_floor.specs.Plays.{learned}
use Rattle.flow_floor.specs.Views.{learning}
use Rattle.flow_floor.specs.Workers.{view}
use Rattle.flow_floor.proofs.Seated.{seated-next}
use Rattle.flow_floor.proofs.Spacing.{apart}
use Rattle.flow_floor.proofs.Coming.{learns}
use Rattle.flow_floor.proofs.floor.Floor.learn.Goals as goal

pub load-requires : goal.load-requires
load-requires g c = let f = c.args.self.now in let q = c.requires.seated in let s = c.args.worker.now.seat in let place = c.level_word-place.ensures in let w = c.requires.whole in (
  q.table,
  omega (arith, f.words, place, c.requires.range),
  apart g.K.Component.rules f.table.shared.key.value f.table.shared.table_id.slots s.id s.me (f.layout.processes + c.args.connection) c.level_word-place.result (λ n. n) (λ i. learned g.S.Spot.most (step f.table.shared.table_id.slots i 0 0 none) s.me) (omega (arith, place))
      (learns g.K.Component.rules g.met.K.Component.lawful f.table.shared.key.value _ _ _ c.args.held.now.process c.args.connection g.S.Spot.most _ q.base w.0 (ap (λ n. n + c.args.connection) (sym f.bodies)) (omega (arith, f.channels, c.requires.range)) c.requires.spot q.held c.requires.withdrawn w.1 w.2 w.3),
)

pub returns-clause-seated : goal.returns-clause-seated
returns-clause-seated g c = let f = c.args.self.now in let e = c.load.ensures in
    seated-next f.table.shared.table_id f.layout.processes c.args.worker.now (record { seat = c.load.new.seat; woken = c.args.worker.now.woken }) c.args.held.now (learning (view c.args.worker.now) (c.level_word-place.result / SPACING) c.load.result) c.requires.seated e.0 e.2.0 refl refl refl

pub returns-clause-view : goal.returns-clause-view
returns-clause-view g c = let f = c.args.self.now in let place = c.level_word-place.ensures in
    let order : c.level_word-place.result / SPACING ≡ f.layout.processes + c.args.connection = omega (arith, place) in
    ap (λ m. m.0) c.load.ensures.2.0 ∙ ap (λ (i : ℕ). learning (view c.args.worker.now) i c.load.result) order

pub returns-clause-most : goal.returns-clause-most
returns-clause-most g c = subst (λ (n : ℕ). level_in c.load.result ≤ n) c.requires.spot c.load.ensures.2.1
