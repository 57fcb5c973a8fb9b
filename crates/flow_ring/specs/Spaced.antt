-- Words that lie apart, as a list without those between.
use Rattle.std.specs.Prelude.{ℕ, zero, suc, ◌-◌, List, [], ◌∷◌}
use Rattle.flow_ring.specs.declared.layout.TheConstants.{SPACING}

-- The words in their order, where so many of those at hand lie between two of them and are passed over first.
abbrev pub ranked_past : ℕ → List ℕ → List ℕ
ranked_past k [] = []
ranked_past zero (w ∷ ws) = w ∷ ranked_past (SPACING - 1) ws
ranked_past (suc k) (w ∷ ws) = ranked_past k ws

-- The words in their order: the first of all, and from there on one at each spacing.
abbrev pub ranked : List ℕ → List ℕ
ranked ws = ranked_past 0 ws
