-- What a resume of a live part does to its tape and to the hands.
use Rattle.std.specs.Prelude.{◌≡◌, ℕ, Bool, true, false, List, [], ◌∷◌, ◌++◌, Option, Some, None, Result, Ok, Err}
use Rattle.flow_text.specs.Edge.{Rose}
use Rattle.flow_packet.specs.Hands.{Holding}
use Rattle.flow_packet.specs.Held.{held_of}
use Rattle.flow_component.specs.declared.Answer.{Answer}
use Rattle.flow_component.specs.declared.Fail.TheVariants as fails
use Rattle.flow_component.specs.declared.OwnFail.TheVariants as owns
use Rattle.flow_component.specs.declared.Shape.{Shape}
use Rattle.flow_component.specs.declared.Stop.{Stop}
use Rattle.flow_component.specs.declared.Stop.TheVariants as stops
use Rattle.flow_component.specs.declared.Wish.{Wish}
use Rattle.flow_component.specs.Resumes.{drops_between, dropped_count}
use Rattle.flow_own.specs.declared.part.PartStop.{PartStop}
use Rattle.flow_own.specs.declared.tape.End.{End}
use Rattle.flow_own.specs.declared.tape.End.TheVariants as ends
use Rattle.flow_own.specs.declared.tape.Entry.{Entry}
use Rattle.flow_own.specs.Acts.{IsActs}
use Rattle.flow_own.specs.Desks.{count_acts}
use Rattle.flow_own.specs.Parts.{Leaves, Resumed, Seen}
use Rattle.flow_own.specs.Ends.{EndsBy}
use Rattle.flow_own.specs.Tapes.{OwnValue, after_entry, can_play, is_full, result_by}

-- The part was asked once and gave an answer; this is the entry of the acts that it left at its desk, which were done, and it ends by that answer.
pub record IsEntry (resumed : Resumed) (before after : Seen) (shape : Shape) (used : List ℕ) (old new : Holding) (answer : Answer) (entry : Entry) : Type 0 where
  pub told : entry.answer ≡ answer
  pub acts : IsActs (held_of old) entry.made entry.dropped
  pub held : held_of new ≡ after_entry (held_of old) entry
  pub count : new.dropped ≡ dropped_count old.dropped (drops_between (held_of old) (held_of new))
  pub said : Result Wish PartStop
  pub last : after.last ≡ Some said
  pub leaves : Leaves resumed before after (held_of old) answer said entry.made entry.dropped
  pub rose : Rose before.answers after.answers
  pub many : count_acts entry.made entry.dropped ≡ after.acts
  pub ends_by : EndsBy shape used (held_of new) after.last entry.end

-- The last entry that a tape may have: the part wasn't asked, and the hands stay.
pub record IsLast (before after : Seen) (old new : Holding) (answer : Answer) (entry : Entry) : Type 0 where
  pub told : entry.answer ≡ answer
  pub unasked : after ≡ before
  pub made : entry.made ≡ None
  pub dropped : entry.dropped ≡ []
  pub limit : entry.end ≡ ends.Fail owns.TapeLimit
  pub held : held_of new ≡ held_of old
  pub count : new.dropped ≡ old.dropped

-- Which of the two it is follows from the length of the tape.
abbrev pub EntryAs : Resumed → Bool → Seen → Seen → Shape → List ℕ → Holding → Holding → Answer → Entry → Type 0
EntryAs resumed true before after shape used old new answer entry = IsLast before after old new answer entry
EntryAs resumed false before after shape used old new answer entry = IsEntry resumed before after shape used old new answer entry

-- One entry was added to the tape, and the resume ends as it does.
pub record Adds (resumed : Resumed) (before after : Seen) (shape : Shape) (used : List ℕ) (tape tape' : List Entry) (old new : Holding) (answer : Answer) (result : Result Wish Stop) : Type 0 where
  pub entry : Entry
  pub added : tape' ≡ tape ++ entry ∷ []
  pub how : EntryAs resumed (is_full tape) before after shape used old new answer entry
  pub gives : result ≡ result_by entry.end

-- Nothing changed, as far as contracts see tape and hands.
pub record Stays (tape tape' : List Entry) (old new : Holding) : Type 0 where
  pub entries : tape' ≡ tape
  pub held : held_of new ≡ held_of old
  pub count : new.dropped ≡ old.dropped

-- A resume adds an entry, or there was no memory.
abbrev pub Tapes : Resumed → Seen → Seen → Shape → List ℕ → List Entry → List Entry → Holding → Holding → Answer → Result Wish Stop → Type 0
Tapes resumed before after shape used tape tape' old new answer (Ok wish) = Adds resumed before after shape used tape tape' old new answer (Ok wish)
Tapes resumed before after shape used tape tape' old new answer (Err (stops.Fail cause)) = Adds resumed before after shape used tape tape' old new answer (Err (stops.Fail cause))
Tapes resumed before after shape used tape tape' old new answer (Err stops.NoMemory) = Stays tape tape' old new

-- The same of a component of the caller's own, where it is live: it stays so.
abbrev pub TapesAs : Resumed → Option Seen → Option Seen → OwnValue → OwnValue → Holding → Holding → Answer → Result Wish Stop → Type 0
TapesAs resumed None after own own' old new answer result = Unit {0}
TapesAs resumed (Some before) None own own' old new answer result = ⊥
TapesAs resumed (Some before) (Some after) own own' old new answer result = Tapes resumed before after own.shape own.used own.tape own'.tape old new answer result

-- What a resume of a live part adds to its tape.
abbrev pub IsTaped : Resumed → OwnValue → OwnValue → Holding → Holding → Answer → Result Wish Stop → Type 0
IsTaped resumed own own' old new answer result = TapesAs resumed own.part own'.part own own' old new answer result

-- The hands stay, and so does the count of what was dropped.
pub record Keeps (old new : Holding) : Type 0 where
  pub held : held_of new ≡ held_of old
  pub count : new.dropped ≡ old.dropped

-- The acts of the entry were done with the hands.
pub record Acts (entry : Entry) (old new : Holding) : Type 0 where
  pub held : held_of new ≡ after_entry (held_of old) entry
  pub count : new.dropped ≡ dropped_count old.dropped (drops_between (held_of old) (held_of new))

-- What a player makes of the next entry of its tape: where it can be played its acts are done, and it ends as the entry does; and
-- otherwise, where no entry is left too, it fails and the hands stay.
abbrev pub PlaysEntry : Bool → Entry → Holding → Holding → Result End Stop → Type 0
PlaysEntry true entry old new (Ok end) = (end ≡ entry.end) × Acts entry old new
PlaysEntry true entry old new (Err (stops.Fail cause)) = ⊥
PlaysEntry true entry old new (Err stops.NoMemory) = Keeps old new
PlaysEntry false entry old new (Ok end) = ⊥
PlaysEntry false entry old new (Err (stops.Fail cause)) = (cause ≡ fails.Own owns.Differs) × Keeps old new
PlaysEntry false entry old new (Err stops.NoMemory) = Keeps old new

-- The same of the entry that is there, if one is.
abbrev pub Plays : Shape → List ℕ → Option Entry → Holding → Holding → Answer → Result End Stop → Type 0
Plays shape used (Some entry) old new answer result = PlaysEntry (can_play shape used (held_of old) answer entry) entry old new result
Plays shape used None old new answer (Ok end) = ⊥
Plays shape used None old new answer (Err (stops.Fail cause)) = (cause ≡ fails.Own owns.Differs) × Keeps old new
Plays shape used None old new answer (Err stops.NoMemory) = ⊥
