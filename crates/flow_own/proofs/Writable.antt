-- The tape of a part has a place in a file after each of its resumes.
use Rattle.flow_limits.specs.declared.TheConstants.{TAPE_LIMIT}
use Rattle.std.proofs.Common.{◌≡◌, ℕ, zero, suc, ◌+◌, ◌<◌, ◌++◌, true, List, [], ◌∷◌, length, Option, Some, None, Result, Ok, Err, refl, sym, subst, arith, slice_get, length-append}
use Rattle.flow_packet.specs.Hands.{Holding}
use Rattle.flow_packet.specs.Held.{Held, held_of}
use Rattle.flow_component.specs.declared.Answer.{Answer}
use Rattle.flow_component.specs.declared.OwnFail.TheVariants as owns
use Rattle.flow_component.specs.declared.Shape.{Shape}
use Rattle.flow_component.specs.declared.Stop.{Stop}
use Rattle.flow_component.specs.declared.Stop.TheVariants as stops
use Rattle.flow_component.specs.declared.Wish.{Wish}
use Rattle.flow_own.specs.declared.tape.End.{End}
use Rattle.flow_own.specs.declared.tape.End.TheVariants as ends
use Rattle.flow_own.specs.declared.tape.Entry.{Entry}
use Rattle.flow_own.specs.Acts.{Made, CanMake}
use Rattle.flow_own.specs.Parts.{Resumed, Seen}
use Rattle.flow_own.specs.Recorded.{IsShort, IsOfPart, IsEntryWritable, IsTapeWritable}
use Rattle.flow_own.specs.Tapes.{OwnValue, after_entry, can_end, is_full, Records, IsOwn}
use Rattle.flow_own.specs.Taping.{Adds, Tapes}
use Rattle.flow_own.proofs.Recording.{entry-recorded, tape-within}

short-made : (held : Held) (made : Option Made) → CanMake held made → IsShort made
short-made held None can = tt
short-made held (Some made) can = can.0

part-end : (shape : Shape) (used : List ℕ) (held : Held) (end : End) → can_end shape used held end ≡ true → IsOfPart end
part-end shape used held (ends.Wish wish) can = tt
part-end shape used held (ends.Fail (owns.Own number)) can = tt
part-end shape used held (ends.Fail (owns.Packet id)) can = tt
part-end shape used held (ends.Fail (owns.Port port)) can = tt
part-end shape used held (ends.Fail owns.TapeLimit) can = tt
part-end shape used held (ends.Fail owns.Differs) can = cc

-- What a part does has a place in a file.
pub records-writable : (own : OwnValue) (held : Held) (answer : Answer) (entry : Entry) → Records own held answer entry → IsEntryWritable entry
records-writable own held answer entry r = record { short = short-made held entry.made r.acts.makes; few = r.few; of_part = part-end own.shape own.used (after_entry held entry) entry.end r.ends_well }

-- what holds of all of a list, and of one more, holds of all of the longer list
each-push : (P : Entry → Type 0) (xs : List Entry) (x : Entry) → ((k : ℕ) (e : Entry) → slice_get xs k ≡ Some e → P e) → P x → (k : ℕ) (e : Entry) → slice_get (xs ++ x ∷ []) k ≡ Some e → P e
each-push P [] x all last zero e at = let same : x ≡ e = cc in subst P same last
each-push P [] x all last (suc k) e at = absurd cc
each-push P (y ∷ ys) x all last zero e at = all zero e at
each-push P (y ∷ ys) x all last (suc k) e at = each-push P ys x (λ j. all (suc j)) last k e at

-- A tape with one entry more, which has a place in a file, has one too where there is room for it.
pub writable-push : (tape : List Entry) (entry : Entry) → length tape < TAPE_LIMIT → IsTapeWritable tape → IsEntryWritable entry → IsTapeWritable (tape ++ entry ∷ [])
writable-push tape entry within all last =
    let more : length (tape ++ entry ∷ []) ≡ length tape + 1 = length-append tape (entry ∷ []) in
    record { few = omega (arith, within, more); each = each-push IsEntryWritable tape entry all.each last }

-- A tape without entries has a place in a file.
pub writable-empty : IsTapeWritable []
writable-empty = record { few = omega arith; each = λ k entry at. absurd cc }

added-writable : (resumed : Resumed) (own : OwnValue) (before after : Seen) (tape : List Entry) (old new : Holding) (answer : Answer) (result : Result Wish Stop) → length own.tape < TAPE_LIMIT → IsTapeWritable own.tape
    → Adds resumed before after own.shape own.used own.tape tape old new answer result → IsTapeWritable tape
added-writable resumed own before after tape old new answer result within all a =
    let r = entry-recorded resumed own before after old new answer a.entry (is_full own.tape) refl a.how in
    subst IsTapeWritable (sym a.added) (writable-push own.tape a.entry within all (records-writable own (held_of old) answer a.entry r.records))

-- A resume of a live part leaves a tape that has a place in a file.
pub taped-writable : (resumed : Resumed) (own : OwnValue) (before after : Seen) (tape : List Entry) (old new : Holding) (answer : Answer) (result : Result Wish Stop) → length own.tape < TAPE_LIMIT → IsTapeWritable own.tape
    → Tapes resumed before after own.shape own.used own.tape tape old new answer result → IsTapeWritable tape
taped-writable resumed own before after tape old new answer (Ok wish) within all a = added-writable resumed own before after tape old new answer (Ok wish) within all a
taped-writable resumed own before after tape old new answer (Err (stops.Fail cause)) within all a = added-writable resumed own before after tape old new answer (Err (stops.Fail cause)) within all a
taped-writable resumed own before after tape old new answer (Err stops.NoMemory) within all s = subst IsTapeWritable (sym s.entries) all

-- A live part stays one whose tape is within its limit until it fails, and has a place in a file.
pub taped-own : (resumed : Resumed) (own : OwnValue) (before after : Seen) (tape : List Entry) (old new : Holding) (answer : Answer) (result : Result Wish Stop) → own.place ≡ None → length own.tape < TAPE_LIMIT → IsTapeWritable own.tape
    → Tapes resumed before after own.shape own.used own.tape tape old new answer result → IsOwn (record own { part = Some after; tape = tape })
taped-own resumed own before after tape old new answer result none within all t = record {
  live = λ l. none;
  limit = λ p f. tape-within resumed own before after tape old new answer result within t f;
  recorded = λ p. taped-writable resumed own before after tape old new answer result within all t;
}
