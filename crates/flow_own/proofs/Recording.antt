-- What a resume of a live part does is one of the things that it may come to.
use Rattle.flow_limits.specs.declared.TheConstants.{TAPE_LIMIT}
use Rattle.std.proofs.Common.{◌≡◌, ℕ, ◌+◌, ◌<◌, ◌||◌, ◌++◌, Bool, true, false, List, [], ◌∷◌, length, Option, Some, None, Result, Ok, Err, is_some, refl, sym, ◌∙◌, ap, subst, arith, nat_eq, nat_lt, length-append}
use Rattle.std.proofs.lemmas.Bool.Decides.{nat_tests}
use Rattle.flow_packet.specs.Hands.{Holding, packet_at}
use Rattle.flow_packet.specs.Held.{Held, held_of}
use Rattle.flow_component.specs.declared.Answer.{Answer}
use Rattle.flow_component.specs.declared.Port.{Port}
use Rattle.flow_component.specs.declared.Wish.{Wish}
use Rattle.flow_component.specs.declared.Wish.TheVariants as wishes
use Rattle.flow_component.specs.declared.Fail.{Fail}
use Rattle.flow_component.specs.declared.Fail.TheVariants as fails
use Rattle.flow_component.specs.declared.OwnFail.{OwnFail}
use Rattle.flow_component.specs.declared.Shape.{Shape}
use Rattle.flow_component.specs.declared.Stop.{Stop}
use Rattle.flow_component.specs.declared.Stop.TheVariants as stops
use Rattle.flow_component.specs.Laws.{Outcome, Wishes, Fails}
use Rattle.flow_component.specs.Resumes.{Resumes, drops_between, dropped_count}
use Rattle.flow_component.proofs.Dropping.{dropped-same}
use Rattle.flow_own.specs.declared.part.PartStop.{PartStop}
use Rattle.flow_own.specs.declared.part.PartStop.TheVariants as parts
use Rattle.flow_own.specs.declared.tape.End.{End}
use Rattle.flow_own.specs.declared.tape.End.TheVariants as ends
use Rattle.flow_own.specs.declared.tape.Entry.{Entry}
use Rattle.flow_own.specs.Acts.{Made, CanAct}
use Rattle.flow_own.specs.Parts.{Resumed, Seen}
use Rattle.flow_own.specs.Ends.{is_used, at_port, at_root, end_by, EndsBy}
use Rattle.flow_own.specs.Tapes.{OwnValue, own_state, is_failure, has_failed, can_end, is_limit, is_full, Records, NextAs, OwnNext, outcome_by, after_entry, result_by}
use Rattle.flow_own.specs.Taping.{EntryAs, Adds, Tapes}

-- how an end stands that comes of an answer
record Fine (shape : Shape) (used : List ℕ) (held : Held) (end : End) : Type 0 where
  pub can : can_end shape used held end ≡ true
  pub no_limit : is_limit end ≡ false

port-fine : (shape : Shape) (used : List ℕ) (held : Held) (port : Port) (wish : Wish) (b : Bool) → (b ≡ true → can_end shape used held (ends.Wish wish) ≡ true) → Fine shape used held (at_port b port wish)
port-fine shape used held port wish true h = record { can = h refl; no_limit = refl }
port-fine shape used held port wish false h = record { can = refl; no_limit = refl }

root-fine : (shape : Shape) (used : List ℕ) (held : Held) (port : Port) (id : ℕ) (a b : Bool) → is_some (packet_at held.packets id) ≡ a → is_used used port.0 ≡ b → Fine shape used held (at_root a b port id)
root-fine shape used held port id true b e f = port-fine shape used held port (wishes.Send port id) b (λ t. rw (e, f, t) refl)
root-fine shape used held port id false b e f = record { can = refl; no_limit = refl }

wish-fine : (shape : Shape) (used : List ℕ) (held : Held) (wish : Wish) → Fine shape used held (end_by shape used held wish)
wish-fine shape used held (wishes.Receive port) = port-fine shape used held port (wishes.Receive port) (nat_lt port.0 shape.inputs) (λ t. t)
wish-fine shape used held (wishes.Send port id) = root-fine shape used held port id (is_some (packet_at held.packets id)) (is_used used port.0) refl refl
wish-fine shape used held (wishes.Level port) = port-fine shape used held port (wishes.Level port) (is_used used port.0) (λ t. t)
wish-fine shape used held wishes.Deactivate = record { can = refl; no_limit = refl }

answer-fine : (shape : Shape) (used : List ℕ) (held : Held) (last : Option (Result Wish PartStop)) (end : End) → EndsBy shape used held last end → Fine shape used held end
answer-fine shape used held (Some (Ok wish)) end e = subst (Fine shape used held) (sym e) (wish-fine shape used held wish)
answer-fine shape used held (Some (Err (parts.Fail number))) end e = subst (Fine shape used held) (sym e) (record { can = refl; no_limit = refl })
answer-fine shape used held (Some (Err parts.NoMemory)) end e = absurd e
answer-fine shape used held None end e = absurd e

-- What is known of an entry that was added.
pub record Recorded (own : OwnValue) (old new : Holding) (answer : Answer) (entry : Entry) : Type 0 where
  pub records : Records own (held_of old) answer entry
  pub held : held_of new ≡ after_entry (held_of old) entry
  pub count : new.dropped ≡ dropped_count old.dropped (drops_between (held_of old) (held_of new))

-- hands that stay, as a work that drops nothing
pub same-count : (old new : Holding) → held_of new ≡ held_of old → new.dropped ≡ old.dropped → new.dropped ≡ dropped_count old.dropped (drops_between (held_of old) (held_of new))
same-count old new e f = f ∙ dropped-same old ∙ ap (λ (h : Held). dropped_count old.dropped (drops_between (held_of old) h)) (sym e)

-- An entry that was added is one of those that the part may come to.
pub entry-recorded : (resumed : Resumed) (own : OwnValue) (before after : Seen) (old new : Holding) (answer : Answer) (entry : Entry) (full : Bool) → is_full own.tape ≡ full
    → EntryAs resumed full before after own.shape own.used old new answer entry → Recorded own old new answer entry
entry-recorded resumed own before after old new answer entry true e how =
    let P : Option Made → List ℕ → Type 0 = λ made dropped. CanAct (held_of old) made dropped in
    let none : P None [] = record { makes = tt; drops = tt } in
    record {
      records = record {
        told = how.told;
        acts = subst (λ (m : Option Made). P m entry.dropped) (sym how.made) (subst (λ (d : List ℕ). P None d) (sym how.dropped) none);
        few = rw how.dropped (omega arith);
        ends_well = rw how.limit refl;
        limit = rw how.limit (sym e);
      };
      held = rw (how.made, how.dropped) how.held;
      count = same-count old new how.held how.count;
    }
entry-recorded resumed own before after old new answer entry false e how =
    let fine = answer-fine own.shape own.used (held_of new) after.last entry.end how.ends_by in
    record {
      records = record {
        told = how.told;
        acts = how.acts.can;
        few = how.acts.few;
        ends_well = subst (λ (h : Held). can_end own.shape own.used h entry.end ≡ true) how.held fine.can;
        limit = fine.no_limit ∙ sym e;
      };
      held = how.held;
      count = how.count;
    }

wish-end : (end : End) (wish : Wish) → Ok wish ≡ result_by end → end ≡ ends.Wish wish
wish-end (ends.Wish w) wish e = cc
wish-end (ends.Fail cause) wish e = cc

fail-end : (end : End) (cause : Fail) → Err (stops.Fail cause) ≡ result_by end → (own : OwnFail) × (end ≡ ends.Fail own) × (cause ≡ fails.Own own)
fail-end (ends.Wish w) cause e = cc
fail-end (ends.Fail own) cause e = (own, refl, (let same : cause ≡ fails.Own own = cc in same))

-- the component with one entry more
abbrev pub longer : OwnValue → List Entry → OwnValue
longer own tape = record own { part = None; tape = tape }

next-as : (own : OwnValue) (held : Held) (answer : Answer) (outcome : Outcome OwnValue) → own.place ≡ None → NextAs None own held answer outcome → OwnNext own held answer outcome
next-as own held answer outcome e next = subst (λ (p : Option ℕ). NextAs p own held answer outcome) (sym e) next

-- What a live part did is one of its outcomes.
pub taped-resumes : (resumed : Resumed) (own : OwnValue) (before after : Seen) (tape : List Entry) (old new : Holding) (answer : Answer) (result : Result Wish Stop) → own.place ≡ None
    → Tapes resumed before after own.shape own.used own.tape tape old new answer result → Resumes OwnNext (own_state own) old answer result (longer own tape) new
taped-resumes resumed own before after tape old new answer (Ok wish) none a =
    let r = entry-recorded resumed own before after old new answer a.entry (is_full own.tape) refl a.how in
    let e = wish-end a.entry.end wish a.gives in
    let to : Wishes (longer own tape) (held_of new) wish ≡ outcome_by (longer own (own.tape ++ a.entry ∷ [])) (after_entry (held_of old) a.entry) a.entry.end =
    (λ i. Wishes (longer own (a.added i)) (r.held i) wish) ∙ ap (outcome_by (longer own (own.tape ++ a.entry ∷ [])) (after_entry (held_of old) a.entry)) (sym e) in
    (next-as (own_state own) (held_of old) answer (Wishes (longer own tape) (held_of new) wish) none (a.entry, record { told = r.records.told; acts = r.records.acts; few = r.records.few; ends_well = r.records.ends_well; limit = r.records.limit }, to), r.count)
taped-resumes resumed own before after tape old new answer (Err (stops.Fail cause)) none a =
    let r = entry-recorded resumed own before after old new answer a.entry (is_full own.tape) refl a.how in
    let f = fail-end a.entry.end cause a.gives in
    let to : Fails (longer own tape) (held_of new) cause ≡ outcome_by (longer own (own.tape ++ a.entry ∷ [])) (after_entry (held_of old) a.entry) a.entry.end =
    (λ i. Fails (longer own (a.added i)) (r.held i) (f.2 i)) ∙ ap (outcome_by (longer own (own.tape ++ a.entry ∷ [])) (after_entry (held_of old) a.entry)) (sym f.1) in
    (next-as (own_state own) (held_of old) answer (Fails (longer own tape) (held_of new) cause) none (a.entry, record { told = r.records.told; acts = r.records.acts; few = r.records.few; ends_well = r.records.ends_well; limit = r.records.limit }, to), r.count)
taped-resumes resumed own before after tape old new answer (Err stops.NoMemory) none s = ((λ i. longer own (s.entries i)), s.held, s.count)

failed-last : (tape : List Entry) (entry : Entry) → has_failed (tape ++ entry ∷ []) ≡ false → is_failure entry.end ≡ false
failed-last [] entry h = by (is_failure entry.end) h
  where
    by : (b : Bool) → (b || false) ≡ false → b ≡ false
    by true e = cc
    by false e = refl
failed-last (e ∷ tape) entry h = failed-last tape entry (by (is_failure e.end) (has_failed (tape ++ entry ∷ [])) h)
  where
    by : (a b : Bool) → (a || b) ≡ false → b ≡ false
    by true b e = cc
    by false b e = e

within-as : (resumed : Resumed) (own : OwnValue) (before after : Seen) (old new : Holding) (answer : Answer) (entry : Entry) (full : Bool) → is_full own.tape ≡ full → length own.tape < TAPE_LIMIT
    → EntryAs resumed full before after own.shape own.used old new answer entry → is_failure entry.end ≡ false → length own.tape + 1 < TAPE_LIMIT
within-as resumed own before after old new answer entry true e within how none = let f : is_failure entry.end ≡ true = rw how.limit refl in let never : true ≡ false = sym f ∙ none in absurd (cc)
within-as resumed own before after old new answer entry false e within how none = let f : nat_eq (length own.tape + 1) TAPE_LIMIT ≡ false = e in grind (arith, nat_tests)

added-within : (resumed : Resumed) (own : OwnValue) (before after : Seen) (tape : List Entry) (old new : Holding) (answer : Answer) (result : Result Wish Stop) → length own.tape < TAPE_LIMIT
    → Adds resumed before after own.shape own.used own.tape tape old new answer result → has_failed tape ≡ false → length tape < TAPE_LIMIT
added-within resumed own before after tape old new answer result within a none =
    let none' : has_failed (own.tape ++ a.entry ∷ []) ≡ false = subst (λ (t : List Entry). has_failed t ≡ false) a.added none in
    let less = within-as resumed own before after old new answer a.entry (is_full own.tape) refl within a.how (failed-last own.tape a.entry none') in
    let more : length tape ≡ length own.tape + 1 = ap (λ (t : List Entry). length t) a.added ∙ length-append own.tape (a.entry ∷ []) in
    omega (arith, less, more)

-- The tape is within its limit until the part fails.
pub tape-within : (resumed : Resumed) (own : OwnValue) (before after : Seen) (tape : List Entry) (old new : Holding) (answer : Answer) (result : Result Wish Stop) → length own.tape < TAPE_LIMIT
    → Tapes resumed before after own.shape own.used own.tape tape old new answer result → has_failed tape ≡ false → length tape < TAPE_LIMIT
tape-within resumed own before after tape old new answer (Ok wish) within a none = added-within resumed own before after tape old new answer (Ok wish) within a none
tape-within resumed own before after tape old new answer (Err (stops.Fail cause)) within a none = added-within resumed own before after tape old new answer (Err (stops.Fail cause)) within a none
tape-within resumed own before after tape old new answer (Err stops.NoMemory) within s none = let same : length tape ≡ length own.tape = ap (λ (t : List Entry). length t) s.entries in omega (arith, same, within)
