use Rattle.std.proofs.Common.{◌≡◌, ◌++◌, take}
use Rattle.flow_offer.proofs.kinds.with_copies.Given as goal

abbrev pub invariant-loop-kind : goal.invariant-loop-kind
invariant-loop-kind l = l.all.items ≡ l.fn.table.items ++ take l.kind-index l.own
