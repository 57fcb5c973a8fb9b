-- Places of names.
use Rattle.std.specs.Prelude.{ℕ, List, Option}
use Rattle.std.specs.Global.{Vec}
use Rattle.std.specs.Ordering.{nat_cmp}
use Rattle.std.specs.Cmp.Lexicographic.{slice_cmp}
use Rattle.std.specs.BTreeMap.{BTreeMap, get_by}

-- The place under these bytes.
abbrev pub place_in : BTreeMap (Vec ℕ) ℕ → List ℕ → Option ℕ
place_in places name = get_by (λ key. slice_cmp nat_cmp name key.items) places
