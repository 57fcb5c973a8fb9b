-- What the acts of an entry would leave at the root, by the ids alone.
use Rattle.std.proofs.Common.{◌≡◌, ℕ, zero, suc, ◌+◌, ◌<◌, ◌||◌, ◌&&◌, ◌++◌, Bool, true, false, List, [], ◌∷◌, length, map, remove, get_or, Option, Some, None, Ok, Err, is_some, slice_get, refl, sym, ◌∙◌, ap, subst, arith, nat_eq, position, if◌then◌else◌}
use Rattle.std.proofs.lemmas.List.Quantifiers.{position-Some}
use Rattle.flow_packet.specs.Tree.{Tree, id_of, packet_of}
use Rattle.flow_packet.specs.Hands.{packet_at, without}
use Rattle.flow_packet.specs.Held.{Held, next_id, without_packet}
use Rattle.flow_packet.proofs.Trees.{position-None}
use Rattle.flow_packet.specs.Hands.{Holding}
use Rattle.flow_packet.specs.Held.{held_of}
use Rattle.flow_component.specs.declared.Answer.{Answer}
use Rattle.flow_component.specs.declared.Wish.{Wish}
use Rattle.flow_component.specs.declared.Wish.TheVariants as wishes
use Rattle.flow_component.specs.declared.Fail.{Fail}
use Rattle.flow_component.specs.declared.Fail.TheVariants as fails
use Rattle.flow_component.specs.declared.OwnFail.TheVariants as owns
use Rattle.flow_component.specs.declared.Shape.{Shape}
use Rattle.flow_component.specs.declared.Stop.{Stop}
use Rattle.flow_component.specs.declared.Stop.TheVariants as stops
use Rattle.flow_component.specs.Laws.{Outcome, Wishes, Fails}
use Rattle.flow_component.specs.Resumes.{Resumes, drops_between, dropped_count}
use Rattle.flow_own.specs.declared.tape.End.{End}
use Rattle.flow_own.specs.declared.tape.End.TheVariants as ends
use Rattle.flow_own.specs.declared.tape.Entry.{Entry}
use Rattle.flow_own.specs.Acts.{Made, after_make, after_drops}
use Rattle.flow_own.specs.Ends.{is_used}
use Rattle.flow_own.specs.Lefts.{is_id, is_among, take_out, left_of, root_ids, can_wish_by, can_end_by}
use Rattle.flow_own.specs.Tapes.{OwnValue, own_state, can_wish, can_end, can_make, can_drop, can_play, is_answer, after_entry, outcome_by, result_by, differs, played, NextAs, OwnNext}
use Rattle.flow_own.specs.Taping.{Keeps, Acts, Plays, PlaysEntry}
use Rattle.flow_own.proofs.Recording.{same-count}

-- What a search for an id shows: where it is found it is among them, and taking it out at that place takes it out; otherwise it isn't.
pub record Found (ids : List ℕ) (id i : ℕ) : Type 0 where
  pub among : is_among ids id ≡ true
  pub out : remove ids i ≡ take_out ids id

found-at : (ids : List ℕ) (id i d : ℕ) → i < length ids → is_id id (get_or ids i d) ≡ true → ((k : ℕ) → k < i → is_id id (get_or ids k d) ≡ false) → Found ids id i
found-at [] id i d within at before = absurd (omega arith)
found-at (x ∷ ids) id zero d within at before = let a : nat_eq x id ≡ true = at in record { among = rw a refl; out = rw a refl }
found-at (x ∷ ids) id (suc i) d within at before =
    let f : nat_eq x id ≡ false = before 0 (omega arith) in
    let rest = found-at ids id i d (omega arith) at (λ k l. before (suc k) (omega arith)) in
    record { among = rw f rest.among; out = rw f (ap (λ (l : List ℕ). x ∷ l) rest.out) }

pub found-Some : (ids : List ℕ) (id i : ℕ) → position (is_id id) ids ≡ Some i → Found ids id i
found-Some ids id i p = let h = position-Some (is_id id) ids i 0 p in found-at ids id i 0 h.0 h.1 (λ k l. h.2 k l)

none-among : (ids : List ℕ) (id : ℕ) → ((k : ℕ) (d : ℕ) → k < length ids → is_id id (get_or ids k d) ≡ false) → is_among ids id ≡ false
none-among [] id h = refl
none-among (x ∷ ids) id h = let f : nat_eq x id ≡ false = h 0 0 (omega arith) in rw f (none-among ids id (λ k d l. h (suc k) d (omega arith)))

pub found-None : (ids : List ℕ) (id : ℕ) → position (is_id id) ids ≡ None → is_among ids id ≡ false
found-None ids id p = none-among ids id (position-None (is_id id) ids p)

-- a packet with the id is at the root where the id is among those at the root
pub among-root : (ts : List Tree) (id : ℕ) → is_among (map id_of ts) id ≡ is_some (packet_at ts id)
among-root [] id = refl
among-root (t ∷ ts) id = elim (nat_eq (id_of t) id) as (λ b. (b || is_among (map id_of ts) id) ≡ is_some (if b then Some t else packet_at ts id)) [ true ↦ refl | false ↦ among-root ts id ]

-- the packet goes with its id
pub out-root : (ts : List Tree) (id : ℕ) → map id_of (without ts id) ≡ take_out (map id_of ts) id
out-root [] id = refl
out-root (t ∷ ts) id =
    elim (nat_eq (id_of t) id) as (λ b. map id_of (if b then ts else t ∷ without ts id) ≡ (if b then map id_of ts else id_of t ∷ take_out (map id_of ts) id)) [
      | true ↦ refl
      | false ↦ ap (λ (l : List ℕ). id_of t ∷ l) (out-root ts id)
    ]

-- the ids that the drops would leave, where each can be done
abbrev pub left_after : Held → List ℕ → Bool → Option (List ℕ)
left_after held dropped true = Some (map id_of (after_drops held dropped).packets)
left_after held dropped false = None

pub left-root : (held : Held) (dropped : List ℕ) → left_of (map id_of held.packets) dropped ≡ left_after held dropped (can_drop held dropped)
left-root held [] = refl
left-root held (id ∷ dropped) =
    by (is_among (map id_of held.packets) id) (is_some (packet_at held.packets id)) (among-root held.packets id)
    (ap (λ (l : List ℕ). left_of l dropped) (sym (out-root held.packets id)) ∙ left-root (without_packet held id) dropped)
  where
    by : (a b : Bool) → a ≡ b → left_of (take_out (map id_of held.packets) id) dropped ≡ left_after (without_packet held id) dropped (can_drop (without_packet held id) dropped)
        → (if a then left_of (take_out (map id_of held.packets) id) dropped else None) ≡ left_after held (id ∷ dropped) (b && can_drop (without_packet held id) dropped)
    by true true e rest = rest ∙ same (can_drop (without_packet held id) dropped)
      where
        same : (c : Bool) → left_after (without_packet held id) dropped c ≡ left_after held (id ∷ dropped) c
        same true = refl
        same false = refl
    by true false e rest = cc
    by false true e rest = cc
    by false false e rest = refl

map-push : (ts : List Tree) (t : Tree) → map id_of (ts ++ t ∷ []) ≡ map id_of ts ++ id_of t ∷ []
map-push [] t = refl
map-push (u ∷ ts) t = ap (λ (l : List ℕ). id_of u ∷ l) (map-push ts t)

nothing-more : (ids : List ℕ) → ids ++ [] ≡ ids
nothing-more [] = refl
nothing-more (x ∷ ids) = ap (λ (l : List ℕ). x ∷ l) (nothing-more ids)

-- the ids at the root after the make
pub root-made : (held : Held) (made : Option Made) → root_ids held made ≡ map id_of (after_make held made).packets
root-made held None = nothing-more (map id_of held.packets)
root-made held (Some made) = sym (map-push held.packets (packet_of (next_id held) made.0 made.1 []))

can-wish-by : (shape : Shape) (used : List ℕ) (held : Held) (wish : Wish) → can_wish_by shape used (map id_of held.packets) wish ≡ can_wish shape used held wish
can-wish-by shape used held (wishes.Receive port) = refl
can-wish-by shape used held (wishes.Send port id) = ap (λ (b : Bool). b && is_used used port.0) (among-root held.packets id)
can-wish-by shape used held (wishes.Level port) = refl
can-wish-by shape used held wishes.Deactivate = refl

-- an end is judged by the ids as it is by the hands
pub can-end-by : (shape : Shape) (used : List ℕ) (held : Held) (end : End) → can_end_by shape used (map id_of held.packets) end ≡ can_end shape used held end
can-end-by shape used held (ends.Wish wish) = can-wish-by shape used held wish
can-end-by shape used held (ends.Fail cause) = refl

left-made : (held : Held) (made : Option Made) (dropped : List ℕ) → left_of (root_ids held made) dropped ≡ left_after (after_make held made) dropped (can_drop (after_make held made) dropped)
left-made held made dropped = ap (λ (ids : List ℕ). left_of ids dropped) (root-made held made) ∙ left-root (after_make held made) dropped

-- Where the drops can't all be done the entry can't be played.
pub none-left : (shape : Shape) (used : List ℕ) (held : Held) (answer : Answer) (entry : Entry) → left_of (root_ids held entry.made) entry.dropped ≡ None → can_play shape used held answer entry ≡ false
none-left shape used held answer entry none =
    by (can_drop (after_make held entry.made) entry.dropped) (is_answer entry.answer answer) (can_make held entry.made) (can_end shape used (after_entry held entry) entry.end)
    (sym none ∙ left-made held entry.made entry.dropped)
  where
    by : (b a m e : Bool) → None ≡ left_after (after_make held entry.made) entry.dropped b → (a && (m && (b && e))) ≡ false
    by true a m e h = cc
    by false true true e h = refl
    by false true false e h = refl
    by false false m e h = refl

-- Otherwise it can be played where it may end so.
pub some-left : (shape : Shape) (used : List ℕ) (held : Held) (answer : Answer) (entry : Entry) (left : List ℕ) → is_answer entry.answer answer ≡ true → can_make held entry.made ≡ true
    → left_of (root_ids held entry.made) entry.dropped ≡ Some left → can_end_by shape used left entry.end ≡ can_play shape used held answer entry
some-left shape used held answer entry left told made is =
    by (is_answer entry.answer answer) (can_make held entry.made) (can_drop (after_make held entry.made) entry.dropped) told made (sym is ∙ left-made held entry.made entry.dropped)
  where
    by : (a m b : Bool) → a ≡ true → m ≡ true → Some left ≡ left_after (after_make held entry.made) entry.dropped b → can_end_by shape used left entry.end ≡ (a && (m && (b && can_end shape used (after_entry held entry) entry.end)))
    by true true true e f h =
        let same : left ≡ map id_of (after_entry held entry).packets = cc in
        ap (λ (ids : List ℕ). can_end_by shape used ids entry.end) same ∙ can-end-by shape used (after_entry held entry) entry.end
    by true true false e f h = cc
    by true false b e f h = cc
    by false m b e f h = cc

-- What `play` tells, from what it found.
pub plays-ok : (shape : Shape) (used : List ℕ) (o : Option Entry) (entry : Entry) (old new : Holding) (answer : Answer) → o ≡ Some entry → can_play shape used (held_of old) answer entry ≡ true
    → Acts entry old new → Plays shape used o old new answer (Ok entry.end)
plays-ok shape used o entry old new answer is can acts =
    subst (λ (x : Option Entry). Plays shape used x old new answer (Ok entry.end)) (sym is) (subst (λ (b : Bool). PlaysEntry b entry old new (Ok entry.end)) (sym can) (refl, acts))

pub plays-without : (shape : Shape) (used : List ℕ) (o : Option Entry) (entry : Entry) (old new : Holding) (answer : Answer) → o ≡ Some entry → Keeps old new → Plays shape used o old new answer (Err stops.NoMemory)
plays-without shape used o entry old new answer is keeps =
    subst (λ (x : Option Entry). Plays shape used x old new answer (Err stops.NoMemory)) (sym is) (by (can_play shape used (held_of old) answer entry))
  where
    by : (b : Bool) → PlaysEntry b entry old new (Err stops.NoMemory)
    by true = keeps
    by false = keeps

pub plays-not : (shape : Shape) (used : List ℕ) (o : Option Entry) (entry : Entry) (old : Holding) (answer : Answer) → o ≡ Some entry → can_play shape used (held_of old) answer entry ≡ false
    → Plays shape used o old old answer (Err (stops.Fail (fails.Own owns.Differs)))
plays-not shape used o entry old answer is can =
    subst (λ (x : Option Entry). Plays shape used x old old answer (Err (stops.Fail (fails.Own owns.Differs)))) (sym is)
    (subst (λ (b : Bool). PlaysEntry b entry old old (Err (stops.Fail (fails.Own owns.Differs)))) (sym can) (refl, record { held = refl; count = refl }))

-- the player after its next entry
abbrev pub moved : OwnValue → ℕ → OwnValue
moved own place = record own { part = None; place = Some (place + 1) }

-- What a player did is what its next entry has.
ok-by : (own : OwnValue) (place : ℕ) (old new : Holding) (answer : Answer) (o : Option Entry) (end : End) → Plays own.shape own.used o old new answer (Ok end)
    → (played own (held_of old) answer place o ≡ outcome_by (moved own place) (held_of new) end) × (new.dropped ≡ dropped_count old.dropped (drops_between (held_of old) (held_of new)))
ok-by own place old new answer None end p = absurd p
ok-by own place old new answer (Some entry) end p = by (can_play own.shape own.used (held_of old) answer entry) p
  where
    by : (b : Bool) → PlaysEntry b entry old new (Ok end)
        → ((if b then outcome_by (moved own place) (after_entry (held_of old) entry) entry.end else differs own (held_of old)) ≡ outcome_by (moved own place) (held_of new) end)
        × (new.dropped ≡ dropped_count old.dropped (drops_between (held_of old) (held_of new)))
    by true h = ((λ i. outcome_by (moved own place) (sym h.1.held i) (sym h.0 i)), h.1.count)
    by false h = absurd h

err-by : (own : OwnValue) (place : ℕ) (old new : Holding) (answer : Answer) (o : Option Entry) (cause : Fail) → Plays own.shape own.used o old new answer (Err (stops.Fail cause))
    → (played own (held_of old) answer place o ≡ Fails own (held_of new) cause) × (new.dropped ≡ dropped_count old.dropped (drops_between (held_of old) (held_of new)))
err-by own place old new answer None cause p = ((λ i. Fails own (sym p.1.held i) (sym p.0 i)), same-count old new p.1.held p.1.count)
err-by own place old new answer (Some entry) cause p = by (can_play own.shape own.used (held_of old) answer entry) p
  where
    by : (b : Bool) → PlaysEntry b entry old new (Err (stops.Fail cause))
        → ((if b then outcome_by (moved own place) (after_entry (held_of old) entry) entry.end else differs own (held_of old)) ≡ Fails own (held_of new) cause)
        × (new.dropped ≡ dropped_count old.dropped (drops_between (held_of old) (held_of new)))
    by true h = absurd h
    by false h = ((λ i. Fails own (sym h.1.held i) (sym h.0 i)), same-count old new h.1.held h.1.count)

pub out-by : (own : OwnValue) (old new : Holding) (answer : Answer) (o : Option Entry) → Plays own.shape own.used o old new answer (Err stops.NoMemory) → Keeps old new
out-by own old new answer None p = absurd p
out-by own old new answer (Some entry) p = by (can_play own.shape own.used (held_of old) answer entry) p
  where
    by : (b : Bool) → PlaysEntry b entry old new (Err stops.NoMemory) → Keeps old new
    by true h = h
    by false h = h

-- an entry that was played is there
pub entry-there : (shape : Shape) (used : List ℕ) (o : Option Entry) (old new : Holding) (answer : Answer) (end : End) → Plays shape used o old new answer (Ok end) → is_some o ≡ true
entry-there shape used None old new answer end p = absurd p
entry-there shape used (Some entry) old new answer end p = refl

next-player : (own : OwnValue) (place : ℕ) (held : Held) (answer : Answer) (outcome : Outcome OwnValue) → own.place ≡ Some place → played (own_state own) held answer place (slice_get own.tape place) ≡ outcome → OwnNext (own_state own) held answer outcome
next-player own place held answer outcome e is = subst (λ (p : Option ℕ). NextAs p (own_state own) held answer outcome) (sym e) (sym is)

-- The resume of a player that played an entry, and that of one that didn't.
pub plays-resumes : (own : OwnValue) (place : ℕ) (old new : Holding) (answer : Answer) (end : End) → own.place ≡ Some place → Plays own.shape own.used (slice_get own.tape place) old new answer (Ok end)
    → Resumes OwnNext (own_state own) old answer (result_by end) (moved own place) new
plays-resumes own place old new answer (ends.Wish wish) e p =
    let by = ok-by (own_state own) place old new answer (slice_get own.tape place) (ends.Wish wish) p in (next-player own place (held_of old) answer (Wishes (moved own place) (held_of new) wish) e by.0, by.1)
plays-resumes own place old new answer (ends.Fail cause) e p =
    let by = ok-by (own_state own) place old new answer (slice_get own.tape place) (ends.Fail cause) p in (next-player own place (held_of old) answer (Fails (moved own place) (held_of new) (fails.Own cause)) e by.0, by.1)

pub stops-resumes : (own : OwnValue) (place : ℕ) (old new : Holding) (answer : Answer) (stop : Stop) → own.place ≡ Some place → Plays own.shape own.used (slice_get own.tape place) old new answer (Err stop)
    → Resumes OwnNext (own_state own) old answer (Err stop) (own_state own) new
stops-resumes own place old new answer (stops.Fail cause) e p =
    let by = err-by (own_state own) place old new answer (slice_get own.tape place) cause p in (next-player own place (held_of old) answer (Fails (own_state own) (held_of new) cause) e by.0, by.1)
stops-resumes own place old new answer stops.NoMemory e p = let k = out-by (own_state own) old new answer (slice_get own.tape place) p in (refl, k.held, k.count)
