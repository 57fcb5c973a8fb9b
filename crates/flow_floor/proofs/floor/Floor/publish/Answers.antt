use Rattle.std.proofs.Common.{◌+◌, ◌%◌, ◌^◌, arith, refl, sym, ap}
use mathlib.Core.Option.{none}
use Rattle.atomic_table.specs.Table.{step}
use Rattle.flow_floor.specs.Plays.{published}
use Rattle.flow_floor.specs.Views.{publishing}
use Rattle.flow_floor.specs.Workers.{view}
use Rattle.flow_floor.proofs.Seated.{seated-next}
use Rattle.flow_floor.proofs.Spacing.{apart}
use Rattle.flow_floor.proofs.Telling.{publishes}
use Rattle.flow_floor.proofs.floor.Floor.publish.Goals as goal

pub fetch_add-requires : goal.fetch_add-requires
fetch_add-requires g c = let f = c.args.self.now in let q = c.requires.seated in let s = c.args.worker.now.seat in let place = c.level_word-place.ensures in let w = c.requires.put in (
  q.table,
  omega (arith, f.words, place, c.requires.range),
  apart g.K.Component.rules f.table.shared.key.value f.table.shared.table_id.slots s.id s.me (f.layout.processes + c.args.connection) c.level_word-place.result (λ m. (m + c.args.puts) % 2 ^ 64) (λ i. published g.N.Noting.notes (step f.table.shared.table_id.slots i c.args.puts 0 none) s.me) (omega (arith, place))
      (publishes g.K.Component.rules g.met.K.Component.lawful f.table.shared.key.value _ _ _ c.args.held.now.process c.args.connection c.args.puts _ q.base w.0 g.N.Noting.notes (ap (λ n. n + c.args.connection) (sym f.bodies)) (omega (arith, f.channels, c.requires.range)) q.held w.1 w.2 w.3 w.4 c.requires.noted),
)

pub returns-clause-seated : goal.returns-clause-seated
returns-clause-seated g c = let f = c.args.self.now in let e = c.fetch_add.ensures in
    seated-next f.table.shared.table_id f.layout.processes c.args.worker.now (record { seat = c.fetch_add.new.seat; woken = c.args.worker.now.woken }) c.args.held.now (publishing (view c.args.worker.now) g.N.Noting.notes) c.requires.seated e.0 e.2 refl refl refl

pub returns-clause-view : goal.returns-clause-view
returns-clause-view g c = ap (λ m. m.0) c.fetch_add.ensures.2
