use Rattle.std.proofs.Common.{◌+◌, reverse}
use Rattle.flow_expand.proofs.Walks.{Walk, pending, left}
use Rattle.flow_expand.proofs.recursion.met_inside_itself.Given as goal

abbrev pub invariant-way : goal.invariant-way
invariant-way l = Walk l.text l.marks.items (reverse l.way.items)

abbrev pub decreases-way : goal.decreases-way
decreases-way l = pending l.marks.items l.text.subnets + left l.text (reverse l.way.items)
