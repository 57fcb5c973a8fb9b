use Rattle.std.proofs.Common.{length, drop}
use Rattle.std.specs.List.{flat_map}
use Rattle.flow_expand.specs.Tells.{own_meant}
use Rattle.flow_expand.proofs.Telling.{GoesOn}
use Rattle.flow_expand.proofs.plan.put_subnets.Given as goal

abbrev pub invariant-subnets : goal.invariant-subnets
invariant-subnets l = GoesOn l.fn.builder (flat_map (own_meant l.text) l.fn.list.items) l.builder (flat_map (own_meant l.text) (drop (length l.yielded) l.fn.list.items))
