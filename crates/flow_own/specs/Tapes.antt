-- Tapes of parts: what a part that is recorded may do, and what the player of a tape does. (This project's own.)
use Rattle.flow_limits.specs.declared.TheConstants.{HANDS_LIMIT, TAPE_LIMIT, TEXT_LIMIT}
use Rattle.std.specs.Prelude.{◌≡◌, ℕ, ◌+◌, ◌<◌, ◌≤◌, ◌==◌, ◌&&◌, ◌||◌, not, if◌then◌else◌, Bool, true, false, List, [], ◌∷◌, ◌++◌, length, Option, Some, None, Result, Ok, Err, is_some, slice_get, nat_lt, nat_le}
use Rattle.flow_packet.specs.Hands.{packet_at}
use Rattle.flow_packet.specs.Held.{Held, without_packet}
use Rattle.flow_component.specs.declared.Answer.{Answer}
use Rattle.flow_component.specs.declared.Answer.TheVariants as answers
use Rattle.flow_component.specs.declared.Wish.{Wish}
use Rattle.flow_component.specs.declared.Wish.TheVariants as wishes
use Rattle.flow_component.specs.declared.Fail.TheVariants as fails
use Rattle.flow_component.specs.declared.OwnFail.{OwnFail}
use Rattle.flow_component.specs.declared.OwnFail.TheVariants as owns
use Rattle.flow_component.specs.declared.Shape.{Shape}
use Rattle.flow_component.specs.declared.Stop.{Stop}
use Rattle.flow_component.specs.declared.Stop.TheVariants as stops
use Rattle.flow_component.specs.Laws.{Rules, Outcome, Wishes, Fails}
use Rattle.flow_own.specs.declared.tape.End.{End}
use Rattle.flow_own.specs.declared.tape.End.TheVariants as ends
use Rattle.flow_own.specs.declared.tape.Entry.{Entry}
use Rattle.flow_own.specs.Acts.{Made, CanAct, after_make, after_acts}
use Rattle.flow_own.specs.Parts.{Seen}
use Rattle.flow_own.specs.Ends.{is_used}
use Rattle.flow_own.specs.Recorded.{IsTapeWritable}

-- A component of the caller's own: a live part, until its end; or the place of a player, which is how many entries it has given. And
-- the tape, the shape and the outputs that are used.
pub record OwnValue : Type 0 where
  pub part : Option Seen
  pub place : Option ℕ
  pub tape : List Entry
  pub shape : Shape
  pub used : List ℕ

-- Its state: the part itself is no part of it.
abbrev pub own_state : OwnValue → OwnValue
own_state own = record own { part = None }

-- It isn't live.
abbrev pub own_told : OwnValue → Bool
own_told own = not (is_some own.part)

-- Which outputs it uses.
abbrev pub own_uses : OwnValue → ℕ → Bool
own_uses own port = is_used own.used port

-- The end is a failure.
abbrev pub is_failure : End → Bool
is_failure (ends.Wish wish) = false
is_failure (ends.Fail cause) = true

-- Some entry of the tape ends with a failure.
abbrev pub has_failed : List Entry → Bool
has_failed [] = false
has_failed (entry ∷ entries) = is_failure entry.end || has_failed entries

-- A player is ready for everything, and a part that is recorded until it has failed.
abbrev pub ReadyAs : Option ℕ → List Entry → Type 0
ReadyAs None tape = has_failed tape ≡ false
ReadyAs (Some place) tape = Unit {0}

-- It is ready, whatever the hands and the answer are.
abbrev pub OwnReady : OwnValue → Held → Answer → Type 0
OwnReady own held answer = ReadyAs own.place own.tape

-- The wish may be granted with these hands.
abbrev pub can_wish : Shape → List ℕ → Held → Wish → Bool
can_wish shape used held (wishes.Receive port) = nat_lt port.0 shape.inputs
can_wish shape used held (wishes.Send port id) = is_some (packet_at held.packets id) && is_used used port.0
can_wish shape used held (wishes.Level port) = is_used used port.0
can_wish shape used held wishes.Deactivate = true

-- The failure isn't a player's.
abbrev pub is_recorded : OwnFail → Bool
is_recorded (owns.Own number) = true
is_recorded (owns.Packet id) = true
is_recorded (owns.Port number) = true
is_recorded owns.TapeLimit = true
is_recorded owns.Differs = false

-- A part that is recorded, or a player, may end so: with a wish that may be granted, or a failure that isn't a player's.
abbrev pub can_end : Shape → List ℕ → Held → End → Bool
can_end shape used held (ends.Wish wish) = can_wish shape used held wish
can_end shape used held (ends.Fail cause) = is_recorded cause

-- What is come to by an entry.
abbrev pub outcome_by : OwnValue → Held → End → Outcome OwnValue
outcome_by own held (ends.Wish wish) = Wishes own held wish
outcome_by own held (ends.Fail cause) = Fails own held (fails.Own cause)

-- The hands after the acts of an entry.
abbrev pub after_entry : Held → Entry → Held
after_entry held entry = after_acts held entry.made entry.dropped

-- An entry without acts that ends with the limit of tapes.
abbrev pub is_limit : End → Bool
is_limit (ends.Wish wish) = false
is_limit (ends.Fail (owns.Own number)) = false
is_limit (ends.Fail (owns.Packet id)) = false
is_limit (ends.Fail (owns.Port number)) = false
is_limit (ends.Fail owns.TapeLimit) = true
is_limit (ends.Fail owns.Differs) = false

-- The tape is so long that one entry more is its last.
abbrev pub is_full : List Entry → Bool
is_full tape = length tape + 1 == TAPE_LIMIT

-- What a part that is recorded may do, told this answer with these hands: its acts can be done, it ends as it may, and the entry with
-- which the tape reaches its limit, and no other, ends with that.
pub record Records (own : OwnValue) (held : Held) (answer : Answer) (entry : Entry) : Type 0 where
  pub told : entry.answer ≡ answer
  pub acts : CanAct held entry.made entry.dropped
  pub few : length entry.dropped ≤ HANDS_LIMIT
  pub ends_well : can_end own.shape own.used (after_entry held entry) entry.end ≡ true
  pub limit : is_limit entry.end ≡ is_full own.tape

-- The part comes to any of these: its tape is one entry longer.
abbrev pub RecordsNext : OwnValue → Held → Answer → Outcome OwnValue → Type 0
RecordsNext own held answer outcome =
    (entry : Entry) × Records own held answer entry × (outcome ≡ outcome_by (record own { part = None; tape = own.tape ++ entry ∷ [] }) (after_entry held entry) entry.end)

-- The two answers are the same.
abbrev pub is_answer : Answer → Answer → Bool
is_answer answers.Start answers.Start = true
is_answer answers.Start answer = false
is_answer (answers.Got a) (answers.Got b) = a == b
is_answer (answers.Got a) answer = false
is_answer answers.End answers.End = true
is_answer answers.End answer = false
is_answer answers.Sent answers.Sent = true
is_answer answers.Sent answer = false
is_answer (answers.Level m) (answers.Level n) = m == n
is_answer (answers.Level m) answer = false

-- The packet may be made here.
abbrev pub can_make : Held → Option Made → Bool
can_make held None = true
can_make held (Some made) = nat_le (length made.1) TEXT_LIMIT && nat_lt (length held.packets) HANDS_LIMIT

-- Each of these packets is at the root when it is dropped, as the definition of the acts has it.
abbrev pub can_drop : Held → List ℕ → Bool
can_drop held [] = true
can_drop held (id ∷ ids) = is_some (packet_at held.packets id) && can_drop (without_packet held id) ids

-- The entry can be played here, told this answer with these hands.
abbrev pub can_play : Shape → List ℕ → Held → Answer → Entry → Bool
can_play shape used held answer entry =
    is_answer entry.answer answer && (can_make held entry.made && (can_drop (after_make held entry.made) entry.dropped && can_end shape used (after_entry held entry) entry.end))

-- A player that can't go on: it fails, and keeps what it has.
abbrev pub differs : OwnValue → Held → Outcome OwnValue
differs own held = Fails own held (fails.Own owns.Differs)

-- What a player at this place comes to by the next entry.
abbrev pub played : OwnValue → Held → Answer → ℕ → Option Entry → Outcome OwnValue
played own held answer place None = differs own held
played own held answer place (Some entry) = if can_play own.shape own.used held answer entry then outcome_by (record own { part = None; place = Some (place + 1) }) (after_entry held entry) entry.end else differs own held

-- What it comes to: of a part that is recorded whatever it may do, and of a player the next entry alone.
abbrev pub NextAs : Option ℕ → OwnValue → Held → Answer → Outcome OwnValue → Type 0
NextAs None own held answer outcome = RecordsNext own held answer outcome
NextAs (Some place) own held answer outcome = outcome ≡ played own held answer place (slice_get own.tape place)

-- What it may come to once it is told an answer.
abbrev pub OwnNext : OwnValue → Held → Answer → Outcome OwnValue → Type 0
OwnNext own held answer outcome = NextAs own.place own held answer outcome

-- All that a network knows of it.
abbrev pub own_rules : Rules OwnValue
own_rules = record { shape = λ own. own.shape; uses = own_uses; ready = OwnReady; next = OwnNext }

-- What holds of each: a live part is no player, a part that is recorded has failed where its tape is at its limit, and the tape of what
-- is no player has a place in a file.
pub record IsOwn (own : OwnValue) : Type 0 where
  pub live : is_some own.part ≡ true → own.place ≡ None
  pub limit : own.place ≡ None → has_failed own.tape ≡ false → length own.tape < TAPE_LIMIT
  pub recorded : own.place ≡ None → IsTapeWritable own.tape

-- What a resume gives that ends so.
abbrev pub result_by : End → Result Wish Stop
result_by (ends.Wish wish) = Ok wish
result_by (ends.Fail cause) = Err (stops.Fail (fails.Own cause))
