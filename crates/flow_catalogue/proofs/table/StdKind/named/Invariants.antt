use Rattle.std.proofs.Common.{◌≡◌, ◌≢◌, ℕ, ◌<◌, Some, slice_get}
use Rattle.flow_catalogue.specs.declared.table.StdKind.{StdKind}
use Rattle.flow_catalogue.specs.Kinds.{name_of, all_kinds}
use Rattle.flow_catalogue.proofs.table.StdKind.named.Given as goal

abbrev pub invariant-loop-kind : goal.invariant-loop-kind
invariant-loop-kind l = (k : ℕ) (kind : StdKind) → k < l.kind-index → slice_get all_kinds k ≡ Some kind → name_of kind ≢ l.name
