use Rattle.std.proofs.Common.{◌≡◌, map, take}
use Rattle.flow_catalogue.specs.Kinds.{spec_of, all_kinds}
use Rattle.flow_catalogue.proofs.table.kinds.Given as goal

abbrev pub invariant-loop-kind : goal.invariant-loop-kind
invariant-loop-kind l = l.specs.items ≡ map spec_of (take l.kind-index all_kinds)
