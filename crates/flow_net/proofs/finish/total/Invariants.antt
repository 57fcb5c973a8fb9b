use Rattle.flow_limits.specs.declared.TheConstants.{ELEMENT_LIMIT}
use Rattle.std.proofs.Common.{◌≡◌, ◌≤◌, ◌*◌, take}
use Rattle.std.specs.List.{sum_by}
use Rattle.flow_net.specs.Finishes.{counted}
use Rattle.flow_net.proofs.finish.total.Given as goal

abbrev pub invariant-loop-g : goal.invariant-loop-g
invariant-loop-g l = (l.sum ≡ sum_by (counted l.process l.input) (take l.g l.draft.ports.now)) × (l.sum ≤ ELEMENT_LIMIT * l.g)
