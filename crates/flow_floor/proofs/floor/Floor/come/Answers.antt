use Rattle.std.proofs.Common.{◌+◌, arith, refl, ap, ◌∙◌}
use mathlib.Core.Option.{none}
use Rattle.atomic_table.specs.Table.{step}
use Rattle.flow_floor.specs.Plays.{came}
use Rattle.flow_floor.specs.Views.{entering}
use Rattle.flow_floor.specs.Workers.{view}
use Rattle.flow_floor.proofs.Seated.{seated-next}
use Rattle.flow_floor.proofs.Spacing.{apart}
use Rattle.flow_floor.proofs.Coming.{comes}
use Rattle.flow_floor.proofs.floor.Floor.come.Goals as goal

pub load-requires : goal.load-requires
load-requires g c = let f = c.args.self.now in let q = c.requires.seated in let s = c.args.worker.now.seat in let place = c.gate_word-place.ensures in (
  q.table,
  omega (arith, f.words, place, c.requires.range),
  apart g.K.Component.rules f.table.shared.key.value f.table.shared.table_id.slots s.id s.me (f.layout.processes + f.layout.connections + c.args.connection) c.gate_word-place.result (λ n. n) (λ i. came g.S.Spot.connection (step f.table.shared.table_id.slots i 0 0 none) s.me) (omega (arith, place))
      (rw c.requires.spot
      (comes g.K.Component.rules g.met.K.Component.lawful f.table.shared.key.value _ _ _ c.args.held.now.process c.args.connection _ q.base (omega (arith, f.channels, c.requires.range)) q.held c.requires.sends c.requires.alone c.requires.nowhere)),
)

pub returns-clause-seated : goal.returns-clause-seated
returns-clause-seated g c = let f = c.args.self.now in let e = c.load.ensures in
    seated-next f.table.shared.table_id f.layout.processes c.args.worker.now (record { seat = c.load.new.seat; woken = c.args.worker.now.woken }) c.args.held.now (entering (view c.args.worker.now) g.S.Spot.connection) c.requires.seated e.0 e.2 refl refl refl

pub returns-clause-view : goal.returns-clause-view
returns-clause-view g c = ap (λ m. m.0) c.load.ensures.2 ∙ ap (entering (view c.args.worker.now)) c.requires.spot
