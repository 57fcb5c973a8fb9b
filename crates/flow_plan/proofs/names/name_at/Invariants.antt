use Rattle.std.proofs.Common.{◌≡◌, ◌≤◌, ◌++◌, ◌∷◌, [], drop, slice_get, length}
use Rattle.flow_plan.specs.Network.{ports_of, unnumbered}
use Rattle.flow_plan.proofs.names.name_at.Given as goal

abbrev pub invariant-loop-row : goal.invariant-loop-row
invariant-loop-row l =
    (slice_get (ports_of (drop l.row-index l.rows) ++ unnumbered l.fn.automatic ∷ []) l.left ≡ slice_get (ports_of l.rows ++ unnumbered l.fn.automatic ∷ []) l.number)
    × (l.left ≤ length (ports_of (drop l.row-index l.rows)))
