use Rattle.std.proofs.Common.{arith}
use Rattle.flow_floor.specs.Rule.{in_order}
use Rattle.flow_floor.proofs.Begins.{splits}
use Rattle.flow_floor.proofs.floor.Floor.split.Goals as goal

pub split_seat-seat-requires : goal.split_seat-seat-requires
split_seat-seat-requires g c = let f = c.args.self.now in let q = c.requires.idle in
    (q.calm.table, omega (arith, f.words), λ s r at. splits g.K.Component.rules f.table.shared.key.value (in_order s) _ _ r at c.requires.shares q.calm.spare)
