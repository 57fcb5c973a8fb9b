use Rattle.std.proofs.Common.{◌≡◌, ◌+◌, ◌/◌, ℕ, arith, refl, sym, ap, ◌∙◌}
use mathlib.Core.Option.{none}
use Rattle.atomic_table.specs.Table.{step}
use Rattle.flow_ring.specs.declared.layout.TheConstants.{SPACING}
use Rattle.flow_floor.specs.Plays.{saw}
use Rattle.flow_floor.specs.Views.{seeing}
use Rattle.flow_floor.specs.Workers.{view}
use Rattle.flow_floor.proofs.Seated.{seated-next}
use Rattle.flow_floor.proofs.Spacing.{apart}
use Rattle.flow_floor.proofs.Coming.{looks}
use Rattle.flow_floor.proofs.floor.Floor.look.Goals as goal

pub load-requires : goal.load-requires
load-requires g c = let f = c.args.self.now in let q = c.requires.seated in let s = c.args.worker.now.seat in let place = c.level_word-place.ensures in (
  q.table,
  omega (arith, f.words, place, c.requires.range),
  apart g.K.Component.rules f.table.shared.key.value f.table.shared.table_id.slots s.id s.me (f.layout.processes + c.args.connection) c.level_word-place.result (λ n. n) (λ i. saw (step f.table.shared.table_id.slots i 0 0 none) s.me) (omega (arith, place))
      (looks g.K.Component.rules g.met.K.Component.lawful f.table.shared.key.value _ _ _ c.args.held.now.process c.args.connection _ q.base (ap (λ n. n + c.args.connection) (sym f.bodies)) q.held c.requires.withdrawn),
)

pub returns-clause-seated : goal.returns-clause-seated
returns-clause-seated g c = let f = c.args.self.now in let e = c.load.ensures in
    seated-next f.table.shared.table_id f.layout.processes c.args.worker.now (record { seat = c.load.new.seat; woken = c.args.worker.now.woken }) c.args.held.now (seeing (view c.args.worker.now) (c.level_word-place.result / SPACING) c.load.result) c.requires.seated e.0 e.2 refl refl refl

pub returns-clause-view : goal.returns-clause-view
returns-clause-view g c = let f = c.args.self.now in let place = c.level_word-place.ensures in
    let order : c.level_word-place.result / SPACING ≡ f.layout.processes + c.args.connection = omega (arith, place) in
    ap (λ m. m.0) c.load.ensures.2 ∙ ap (λ (i : ℕ). seeing (view c.args.worker.now) i c.load.result) order
