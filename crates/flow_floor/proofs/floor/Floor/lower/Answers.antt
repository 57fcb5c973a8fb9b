use Rattle.std.proofs.Common.{◌≡◌, ◌+◌, ◌-◌, ◌%◌, ◌^◌, length, arith}
use mathlib.Core.Option.{none}
use Rattle.atomic_table.specs.Table.{step}
use Rattle.flow_floor.specs.Ends.{capacities_of}
use Rattle.flow_floor.specs.Plays.{lowered}
use Rattle.flow_floor.proofs.Spacing.{apart}
use Rattle.flow_floor.proofs.Lives.{lowers}
use Rattle.flow_floor.proofs.floor.Floor.lower.Goals as goal

pub fetch_sub-requires : goal.fetch_sub-requires
fetch_sub-requires g c = let f = c.args.self.now in let q = c.requires in let s = c.args.worker.now.seat in let place = c.live-live.ensures in (
  q.table,
  omega (arith, f.words, place),
  apart g.K.Component.rules f.table.shared.key.value f.table.shared.table_id.slots s.id s.me (f.layout.processes + f.layout.connections + f.layout.connections + 1) c.live-live.result (λ n. (n + (2 ^ 64 - 1)) % 2 ^ 64) (λ i. lowered (step f.table.shared.table_id.slots i 1 0 none) s.me) (omega (arith, place))
      (lowers g.K.Component.rules g.met.K.Component.lawful f.table.shared.key.value _ _ _ _ (let e : f.layout.processes + f.layout.connections + f.layout.connections + 1 ≡ length f.table.shared.key.value.bodies + length (capacities_of f.table.shared.key.value) + length (capacities_of f.table.shared.key.value) + 1 = omega (arith, f.bodies, f.channels) in e) (omega (arith, q.spare))),
)
