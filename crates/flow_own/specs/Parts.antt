-- What a part tells of itself, and what an answer of it is.
use Rattle.std.specs.Prelude.{◌≡◌, ℕ, ◌+◌, List, [], Option, Some, None, Result, Ok, Err}
use Rattle.flow_text.specs.Edge.{Rose}
use Rattle.flow_packet.specs.Held.{Held}
use Rattle.flow_component.specs.declared.Answer.{Answer}
use Rattle.flow_component.specs.declared.Wish.{Wish}
use Rattle.flow_own.specs.declared.part.PartStop.{PartStop}
use Rattle.flow_own.specs.declared.part.PartStop.TheVariants as stops
use Rattle.flow_own.specs.Acts.{Made}
use Rattle.flow_own.specs.Desks.{DeskValue, count_acts, desk_with}

-- What contracts see of a part: how many answers it gave, as far as that is counted; the last of them; and how many acts it did for that one.
pub record Seen : Type 0 where
  pub answers : ℕ
  pub last : Option (Result Wish PartStop)
  pub acts : ℕ

-- What one resume of a part is said to do: what the part showed before, what it was told, what it answered, the desk before and after, and what the part
-- shows now.
abbrev pub Resumed : Type 1
Resumed = Seen → Answer → Result Wish PartStop → DeskValue → DeskValue → Seen → Type 0

-- The part was told this once, over a desk with these hands and without acts; it answered so, and these are the acts that it left at the desk.
abbrev pub Leaves : Resumed → Seen → Seen → Held → Answer → Result Wish PartStop → Option Made → List ℕ → Type 0
Leaves resumed before after held told answer made dropped = resumed before told answer (desk_with held None []) (desk_with held made dropped) after

-- The part has answered: its count rose, this is its last answer, and it did so many more acts at the desk.
pub record Answered (before after : Seen) (answer : Result Wish PartStop) (old new : DeskValue) : Type 0 where
  pub rose : Rose before.answers after.answers
  pub last : after.last ≡ Some answer
  pub more : count_acts new.made new.dropped ≡ count_acts old.made old.dropped + after.acts

-- A wish and a failure are answers; want of memory is none.
abbrev pub Answers : Seen → Seen → Result Wish PartStop → DeskValue → DeskValue → Type 0
Answers before after (Ok wish) old new = Answered before after (Ok wish) old new
Answers before after (Err (stops.Fail number)) old new = Answered before after (Err (stops.Fail number)) old new
Answers before after (Err stops.NoMemory) old new = Unit {0}

-- The same of a part that was asked once, over a desk with these hands and without acts; and these are the acts that it left there.
pub record Asked (resumed : Resumed) (before after : Seen) (held : Held) (told : Answer) (answer : Result Wish PartStop) (made : Option Made) (dropped : List ℕ) : Type 0 where
  pub leaves : Leaves resumed before after held told answer made dropped
  pub rose : Rose before.answers after.answers
  pub last : after.last ≡ Some answer
  pub acts : count_acts made dropped ≡ after.acts

-- Want of memory is no answer.
abbrev pub IsAsked : Resumed → Seen → Seen → Held → Answer → Result Wish PartStop → Option Made → List ℕ → Type 0
IsAsked resumed before after held told (Ok wish) made dropped = Asked resumed before after held told (Ok wish) made dropped
IsAsked resumed before after held told (Err (stops.Fail number)) made dropped = Asked resumed before after held told (Err (stops.Fail number)) made dropped
IsAsked resumed before after held told (Err stops.NoMemory) made dropped = Unit {0}
