-- What the components make of their streams, from their first state to their end. (The exact rules are this project's own.)
use Rattle.std.specs.Prelude.{ℕ, Bool, List}
use Rattle.flow_component.specs.Happenings.{Happening}
use Rattle.flow_component.specs.Runs.{EndedRun, EndIsLast, got, sent}
use Rattle.flow_pick.specs.Places.{IsParted}
use Rattle.flow_pick.specs.Unique.{unique_rules, fresh_unique, is_new}
use Rattle.flow_pick.specs.Tail.{tail_rules, fresh_tail, is_among_last}
use Rattle.flow_pick.specs.Head.{head_rules, fresh_head, is_among_first}

-- A Unique sends on what is no repeat, and what is one to its second output, if that is connected.
abbrev pub UniqueMeaning : Type 0
UniqueMeaning = (rep : Bool) (told : List Happening) → EndedRun unique_rules (fresh_unique rep) told → IsParted is_new rep (got 0 told) (sent 0 told) (sent 1 told)

-- A Head sends on the first packets of each stretch, so many at most, and the brackets; and the others to its second output, if that is connected.
abbrev pub HeadMeaning : Type 0
HeadMeaning = (count : ℕ) (rest : Bool) (told : List Happening) → EndedRun head_rules (fresh_head count rest) told → IsParted (is_among_first count) rest (got 0 told) (sent 0 told) (sent 1 told)

-- A Tail whose input ends for good sends on the last packets of each stretch, so many at most, and the brackets; and the others to its second output, if that is connected.
abbrev pub TailMeaning : Type 0
TailMeaning = (count : ℕ) (rest : Bool) (told : List Happening) → EndedRun tail_rules (fresh_tail count rest) told → EndIsLast 0 told → IsParted (is_among_last count) rest (got 0 told) (sent 0 told) (sent 1 told)
