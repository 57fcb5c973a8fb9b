-- What a tape of a part is like, so that it has a file.
use Rattle.flow_limits.specs.declared.TheConstants.{HANDS_LIMIT, TAPE_LIMIT, TEXT_LIMIT}
use Rattle.std.specs.Prelude.{◌≡◌, ℕ, ◌≤◌, List, length, Option, Some, None, slice_get}
use Rattle.flow_component.specs.declared.OwnFail.TheVariants as owns
use Rattle.flow_own.specs.declared.tape.End.{End}
use Rattle.flow_own.specs.declared.tape.End.TheVariants as ends
use Rattle.flow_own.specs.declared.tape.Entry.{Entry}
use Rattle.flow_own.specs.Acts.{Made}

-- The text of what was made isn't too long.
abbrev pub IsShort : Option Made → Type 0
IsShort None = Unit {0}
IsShort (Some made) = length made.1 ≤ TEXT_LIMIT

-- The end isn't a player's failure.
abbrev pub IsOfPart : End → Type 0
IsOfPart (ends.Wish wish) = Unit {0}
IsOfPart (ends.Fail (owns.Own number)) = Unit {0}
IsOfPart (ends.Fail (owns.Packet id)) = Unit {0}
IsOfPart (ends.Fail (owns.Port port)) = Unit {0}
IsOfPart (ends.Fail owns.TapeLimit) = Unit {0}
IsOfPart (ends.Fail owns.Differs) = ⊥

-- An entry has a place in a file.
pub record IsEntryWritable (entry : Entry) : Type 0 where
  pub short : IsShort entry.made
  pub few : length entry.dropped ≤ HANDS_LIMIT
  pub of_part : IsOfPart entry.end

-- A tape has a place in a file.
pub record IsTapeWritable (tape : List Entry) : Type 0 where
  pub few : length tape ≤ TAPE_LIMIT
  pub each : (k : ℕ) (entry : Entry) → slice_get tape k ≡ Some entry → IsEntryWritable entry
