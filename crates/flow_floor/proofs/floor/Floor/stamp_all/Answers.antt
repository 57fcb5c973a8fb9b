use Rattle.std.proofs.Common.{◌≡◌, ◌+◌, ◌%◌, ◌^◌, length, arith}
use mathlib.Core.Option.{none}
use Rattle.atomic_table.specs.Table.{step}
use Rattle.flow_floor.specs.Ends.{capacities_of}
use Rattle.flow_floor.specs.Plays.{all_stamped}
use Rattle.flow_floor.proofs.Seated.{seated-stamped}
use Rattle.flow_floor.proofs.Spacing.{apart}
use Rattle.flow_floor.proofs.AllStamps.{all-stamps}
use Rattle.flow_floor.proofs.floor.Floor.stamp_all.Goals as goal

pub fetch_add-found-requires : goal.fetch_add-found-requires
fetch_add-found-requires g c = let f = c.args.self.now in let q = c.requires.seated in let s = c.args.worker.now.seat in let place = c.clock-clock.ensures in
    let p = c.requires.pending in
    let many = c.requires.count p.0 p.1 in (
      q.table,
      omega (arith, f.words, place),
      apart g.K.Component.rules f.table.shared.key.value f.table.shared.table_id.slots s.id s.me (f.layout.processes + f.layout.connections + f.layout.connections) c.clock-clock.result (λ x. (x + c.args.turns) % 2 ^ 64) (λ i. all_stamped g.K.Component.rules g.D.Deeds.start g.D.Deeds.are (step f.table.shared.table_id.slots i c.args.turns 0 none) s.me) (omega (arith, place))
          (rw (← many)
          (all-stamps g.K.Component.rules g.met.K.Component.lawful f.table.shared.key.value f.table.shared.table_id.slots _ s.id s.me p.0 g.D.Deeds.start g.D.Deeds.are c.requires.deeds p.1
          (let e : f.layout.processes + f.layout.connections + f.layout.connections ≡ length f.table.shared.key.value.bodies + length (capacities_of f.table.shared.key.value) + length (capacities_of f.table.shared.key.value) = omega (arith, f.bodies, f.channels) in e) (omega (arith, many))
          (rw (f.bodies, f.channels) p.2))),
    )

pub returns-clause-seated : goal.returns-clause-seated
returns-clause-seated g c = let f = c.args.self.now in let e = c.fetch_add-found.ensures in
    seated-stamped f.table.shared.table_id f.layout.processes c.args.worker.now (record { seat = c.fetch_add-found.new.seat; woken = c.args.worker.now.woken }) c.args.held.now c.fetch_add-found.result e.2.0 c.requires.seated e.0 e.2.2.0
