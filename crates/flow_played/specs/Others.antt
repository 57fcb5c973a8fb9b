-- A network in which components of the caller's own may stand, and none does. (This project's own.)
use Rattle.std.specs.Prelude.{ℕ, List, map}
use Rattle.flow_model.specs.States.{State}
use Rattle.flow_model.specs.Replaced.{replaced}
use Rattle.flow_own.specs.Mixed.{Mixed, Other, Own}

-- The component isn't the caller's own.
abbrev pub IsOther : {K : Type 0} → Mixed K → Type 0
IsOther (Other component) = Unit {0}
IsOther (Own own) = ⊥

-- These components, as those of such a network.
abbrev pub others : {K : Type 0} → List K → List (Mixed K)
others components = map Other components

-- A component of any process, as one of such a network.
abbrev pub other_at : {K : Type 0} → ℕ → K → Mixed K
other_at p component = Other component

-- The state, as one of such a network: each component is what it was, and all else too.
abbrev pub as_mixed : {K : Type 0} → State K → State (Mixed K)
as_mixed s = replaced other_at s
