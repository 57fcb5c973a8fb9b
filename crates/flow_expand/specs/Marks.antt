-- What a walk that looks for recursions sees next.
use Rattle.std.specs.Prelude.{◌≡◌, ◌⊎◌, ◌≤◌, ℕ, List, length, Some, None, slice_get}
use Rattle.flow_parse.specs.declared.value.NetText.{NetText}
use Rattle.flow_expand.specs.declared.recursion.Mark.{Mark}
use Rattle.flow_expand.specs.declared.recursion.Mark.TheVariants.{New, Open, Done}
use Rattle.flow_expand.specs.declared.recursion.Spot.{Spot}
use Rattle.flow_expand.specs.declared.recursion.Look.{Look}
use Rattle.flow_expand.specs.declared.recursion.Look.TheVariants.{Ended, Passed, Inside, Again}
use Rattle.flow_expand.specs.Places.{subnet_place}
use Rattle.flow_expand.specs.Ways.{part_at}

-- A process that is no subnet, or one that is done.
abbrev pub LeadsOn : NetText → List Mark → List ℕ × List ℕ → Type 0
LeadsOn text marks x = (subnet_place text x.1 ≡ None) ⊎ ((s : ℕ) × (subnet_place text x.1 ≡ Some s) × (slice_get marks s ≡ Some Done))

-- The next process is a subnet that is marked so.
abbrev pub IsNext : NetText → List Mark → Spot → ℕ → Mark → Type 0
IsNext text marks spot s mark = (x : List ℕ × List ℕ) × (slice_get (part_at text spot.subnet).processes spot.next ≡ Some x) × (subnet_place text x.1 ≡ Some s) × (slice_get marks s ≡ Some mark)

-- What is seen where the next process of a subnet is looked at: there is none left; it is no subnet, or one that was seen through; it is one to go
-- into; or it closes a circle.
abbrev pub Looks : NetText → List Mark → Spot → Look → Type 0
Looks text marks spot Ended = length (part_at text spot.subnet).processes ≤ spot.next
Looks text marks spot Passed = (x : List ℕ × List ℕ) × (slice_get (part_at text spot.subnet).processes spot.next ≡ Some x) × LeadsOn text marks x
Looks text marks spot (Inside s) = IsNext text marks spot s New
Looks text marks spot (Again s) = IsNext text marks spot s Open
