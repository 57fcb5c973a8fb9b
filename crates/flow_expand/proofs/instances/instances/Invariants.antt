use Rattle.std.proofs.Common.{◌+◌, ◌*◌, length, reverse}
use Rattle.flow_expand.specs.Ways.{rest}
use Rattle.flow_expand.proofs.Walked.{Walked}
use Rattle.flow_expand.proofs.instances.instances.Given as goal

abbrev pub invariant-way : goal.invariant-way
invariant-way l = Walked l.text l.kinds l.counts l.list.items (reverse l.way.items)

abbrev pub decreases-way : goal.decreases-way
decreases-way l = 2 * length (rest l.text (reverse l.way.items)) + length l.way.items
