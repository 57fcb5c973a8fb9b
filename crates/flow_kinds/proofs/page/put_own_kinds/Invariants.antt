use Rattle.std.proofs.Common.{◌≡◌, ◌++◌, take}
use Rattle.std.specs.List.{flat_map}
use Rattle.flow_kinds.specs.Page.{own_lines}
use Rattle.flow_kinds.proofs.page.put_own_kinds.Given as goal

abbrev pub invariant-loop-spec : goal.invariant-loop-spec
invariant-loop-spec l = l.page.items ≡ l.initial.page.items ++ flat_map own_lines (take l.spec-index l.own)
