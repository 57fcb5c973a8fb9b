use Rattle.std.proofs.Common.{◌≡◌, ◌+◌, length, arith, refl, ap}
use mathlib.Core.Option.{none}
use Rattle.atomic_table.specs.Table.{step}
use Rattle.flow_floor.specs.Ends.{capacities_of}
use Rattle.flow_floor.specs.Plays.{exited}
use Rattle.flow_floor.specs.Views.{exiting}
use Rattle.flow_floor.specs.Workers.{view}
use Rattle.flow_floor.proofs.Seated.{seated-next}
use Rattle.flow_floor.proofs.Spacing.{apart}
use Rattle.flow_floor.proofs.Coming.{exits}
use Rattle.flow_floor.proofs.floor.Floor.exit.Goals as goal

pub swap-requires : goal.swap-requires
swap-requires g c = let f = c.args.self.now in let q = c.requires.seated in let s = c.args.worker.now.seat in let place = c.gate_word-place.ensures in let w = c.requires.told in (
  q.table,
  omega (arith, f.words, place, c.requires.range),
  apart g.K.Component.rules f.table.shared.key.value f.table.shared.table_id.slots s.id s.me (f.layout.processes + f.layout.connections + c.args.connection) c.gate_word-place.result (λ _. 0) (λ i. exited (step f.table.shared.table_id.slots i 0 0 none) s.me) (omega (arith, place))
      (exits g.K.Component.rules g.met.K.Component.lawful f.table.shared.key.value f.table.shared.table_id.slots _ s.id c.args.held.now.process c.args.connection s.me q.base w.0
      (let e : f.layout.processes + f.layout.connections + c.args.connection ≡ length f.table.shared.key.value.bodies + length (capacities_of f.table.shared.key.value) + c.args.connection = omega (arith, f.bodies, f.channels) in e) (omega (arith, f.channels, c.requires.range)) q.held w.1 w.2 w.3),
)

pub returns-clause-seated : goal.returns-clause-seated
returns-clause-seated g c = let f = c.args.self.now in let e = c.swap.ensures in
    seated-next f.table.shared.table_id f.layout.processes c.args.worker.now (record { seat = c.swap.new.seat; woken = c.args.worker.now.woken }) c.args.held.now (exiting (view c.args.worker.now)) c.requires.seated e.0 e.2 refl refl refl

pub returns-clause-view : goal.returns-clause-view
returns-clause-view g c = ap (λ m. m.0) c.swap.ensures.2
