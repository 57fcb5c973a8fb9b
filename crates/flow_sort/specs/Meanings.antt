-- What a Sort makes of its stream, from its first state to its end. (The exact rules are this project's own.)
use Rattle.std.specs.Prelude.{◌≡◌, ℕ, List, Option}
use Rattle.flow_packet.specs.Tree.{Tree}
use Rattle.flow_packet.specs.Sorting.{IsStableSort}
use Rattle.flow_component.specs.Happenings.{Happening}
use Rattle.flow_component.specs.Runs.{EndedRun, EndIsLast, got, sent}
use Rattle.flow_sort.specs.declared.sort.SortPlace.TheVariants.{Idle}
use Rattle.flow_sort.specs.Sort.{SortState, sort_rules}
use Rattle.flow_sort.specs.Sorted.{stable_sort, sorted_stretches}

-- A Sort at its start.
abbrev pub fresh_sort : Option ℕ → SortState
fresh_sort bytes = record { bytes = bytes; place = Idle }

-- A Sort whose input ends for good sends what it gets with each stretch sorted.
abbrev pub SortMeaning : Type 0
SortMeaning = (bytes : Option ℕ) (told : List Happening) → EndedRun sort_rules (fresh_sort bytes) told → EndIsLast 0 told → sent 0 told ≡ sorted_stretches bytes (got 0 told)

-- The sorted list is a stable sort of the packets, and there is no other.
abbrev pub IsTheStableSort : Type 0
IsTheStableSort = (bytes : Option ℕ) (before : List Tree) → IsStableSort bytes before (stable_sort bytes before) × ((after : List Tree) → IsStableSort bytes before after → after ≡ stable_sort bytes before)
