use Rattle.std.proofs.Common.{◌≡◌, ◌+◌, ◌/◌, ℕ, ap, ◌∙◌, length, arith}
use mathlib.Core.Option.{none}
use Rattle.atomic_table.specs.Table.{step}
use Rattle.flow_ring.specs.declared.layout.TheConstants.{SPACING}
use Rattle.flow_floor.specs.Workers.{view}
use Rattle.flow_floor.specs.Ends.{capacities_of}
use Rattle.flow_floor.specs.Plays.{told_live}
use Rattle.flow_floor.specs.Views.{reading}
use Rattle.flow_floor.proofs.Spacing.{apart}
use Rattle.flow_floor.proofs.Lives.{reads}
use Rattle.flow_floor.proofs.floor.Floor.live.Goals as goal

pub load-requires : goal.load-requires
load-requires g c = let f = c.args.self.now in let q = c.requires in let s = c.args.worker.now.seat in let place = c.live-live.ensures in (
  q.calm.table,
  omega (arith, f.words, place),
  apart g.K.Component.rules f.table.shared.key.value f.table.shared.table_id.slots s.id s.me (f.layout.processes + f.layout.connections + f.layout.connections + 1) c.live-live.result (λ n. n) (λ i. told_live (step f.table.shared.table_id.slots i 0 0 none) s.me) (omega (arith, place))
      (reads g.K.Component.rules g.met.K.Component.lawful f.table.shared.key.value _ _ _ _ (let e : f.layout.processes + f.layout.connections + f.layout.connections + 1 ≡ length f.table.shared.key.value.bodies + length (capacities_of f.table.shared.key.value) + length (capacities_of f.table.shared.key.value) + 1 = omega (arith, f.bodies, f.channels) in e)),
)

pub returns-clause-view : goal.returns-clause-view
returns-clause-view g c = let f = c.args.self.now in let place = c.live-live.ensures in
    let order : c.live-live.result / SPACING ≡ f.layout.processes + f.layout.connections + f.layout.connections + 1 = omega (arith, place) in
    ap (λ m. m.0) c.load.ensures.2 ∙ ap (λ (i : ℕ). reading (view c.args.worker.now) i c.load.result) order
