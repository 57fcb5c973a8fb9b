use Rattle.std.proofs.Common.{◌≡◌, ◌+◌, ◌%◌, ◌^◌, length, arith, subst}
use mathlib.Core.Option.{none}
use Rattle.atomic_table.specs.Table.{step}
use Rattle.flow_machine.specs.Values.{NetValue}
use Rattle.flow_floor.specs.Ends.{capacities_of}
use Rattle.flow_floor.specs.Pending.{MachineTurns}
use Rattle.flow_floor.specs.Plays.{stamped}
use Rattle.flow_floor.specs.Workers.{view}
use Rattle.flow_floor.proofs.Seated.{seated-stamped}
use Rattle.flow_floor.proofs.Spacing.{apart}
use Rattle.flow_floor.proofs.Stamps.{stamps}
use Rattle.flow_floor.proofs.floor.Floor.stamp.Goals as goal

pub fetch_add-found-requires : goal.fetch_add-found-requires
fetch_add-found-requires g c = let f = c.args.self.now in let q = c.requires.seated in let s = c.args.worker.now.seat in let place = c.clock-clock.ensures in (
  q.table,
  omega (arith, f.words, place),
  apart g.K.Component.rules f.table.shared.key.value f.table.shared.table_id.slots s.id s.me (f.layout.processes + f.layout.connections + f.layout.connections) c.clock-clock.result (λ x. (x + c.args.turns) % 2 ^ 64) (λ i. stamped g.K.Component.rules g.D.Deed.start g.D.Deed.turns (step f.table.shared.table_id.slots i c.args.turns 0 none) s.me) (omega (arith, place))
      (rw (← c.requires.count)
      (stamps g.K.Component.rules g.met.K.Component.lawful f.table.shared.key.value f.table.shared.table_id.slots _ s.id s.me g.D.Deed.turns g.D.Deed.start c.requires.deed
      (let e : f.layout.processes + f.layout.connections + f.layout.connections ≡ length f.table.shared.key.value.bodies + length (capacities_of f.table.shared.key.value) + length (capacities_of f.table.shared.key.value) = omega (arith, f.bodies, f.channels) in e) (omega (arith, c.requires.count))
      (rw (f.bodies, f.channels) c.requires.pending))),
)

pub returns-clause-seated : goal.returns-clause-seated
returns-clause-seated g c = let f = c.args.self.now in let e = c.fetch_add-found.ensures in
    seated-stamped f.table.shared.table_id f.layout.processes c.args.worker.now (record { seat = c.fetch_add-found.new.seat; woken = c.args.worker.now.woken }) c.args.held.now c.fetch_add-found.result g.D.Deed.turns c.requires.seated e.0 e.2.0

pub returns-clause-most : goal.returns-clause-most
returns-clause-most g c = omega (arith, c.fetch_add-found.ensures.2.2, c.requires.count)

pub returns-clause-machine : goal.returns-clause-machine
returns-clause-machine g c = let v = view c.args.worker.now in subst (λ (n : NetValue _). MachineTurns g.K.Component.rules n v.made c.fetch_add-found.result v.held g.D.Deed.turns) c.requires.deed c.fetch_add-found.ensures.2.3
