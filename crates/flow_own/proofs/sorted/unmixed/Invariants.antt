use Rattle.std.proofs.Common.{◌≡◌, ◌++◌, All, IsTrue}
use Rattle.std.specs.Vec.Iter.{into_iter_items}
use Rattle.flow_own.specs.Mixed.{is_other}
use Rattle.flow_own.proofs.sorted.unmixed.Given as goal

abbrev pub invariant-loop-component : goal.invariant-loop-component
invariant-loop-component g l =
    (l.unmixed.items ++ into_iter_items l.component-iterator ≡ l.fn.components.items)
    × All (λ component. IsTrue (is_other component)) (into_iter_items l.component-iterator)
