use Rattle.std.proofs.Common.{◌∙◌, List, nat_lt, length, sym, ap, arith}
use Rattle.flow_plan.specs.declared.plan.Sender.{Sender}
use Rattle.flow_floor.specs.Ends.{has_several}
use Rattle.flow_floor.proofs.Planned.{connection-there, connection-read}
use Rattle.flow_floor.proofs.floor.Floor.is_shared.Goals as goal

pub index-requires : goal.index-requires
index-requires g c = omega (arith, connection-there c.args.self.now c.args.connection c.requires)

pub returns : goal.returns
returns g c = let f = c.args.self.now in let there = connection-read f c.args.connection c.index.result.now c.requires c.index.ensures in
    sym (ap has_several there ∙ ap (λ (ss : List Sender). nat_lt 1 (length ss)) (sym c.as_slice.ensures))
