use Rattle.flow_net.proofs.KindTables.{IsSound-empty}
use Rattle.flow_net.proofs.builder.PlanBuilder.new.Goals as goal

pub invariant_of-result : goal.invariant_of-result
invariant_of-result c = rw (c.new.ensures.items, c.new-2.ensures.items, c.new-3.ensures.items) (IsSound-empty c.args.kinds.items c.requires)
