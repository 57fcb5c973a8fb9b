use Rattle.flow_limits.specs.declared.TheConstants.{CAPACITY_LIMIT}
use Rattle.std.proofs.Common.{◌≡◌, ◌*◌, ◌≤◌, take}
use Rattle.std.specs.List.{sum_by}
use Rattle.flow_net.specs.Finishes.{capacity_of}
use Rattle.flow_net.proofs.check.capacity_sum.Given as goal

abbrev pub invariant-loop-link : goal.invariant-loop-link
invariant-loop-link l = (l.sum ≡ sum_by capacity_of (take l.link-index l.links)) × (l.sum ≤ CAPACITY_LIMIT * l.link-index)
