-- That a component of the caller's own keeps the laws of components, live or played.
use Rattle.flow_limits.specs.declared.TheConstants.{HANDS_LIMIT, TEXT_LIMIT}
use Rattle.std.proofs.Common.{◌≡◌, ℕ, ◌+◌, ◌<◌, ◌≤◌, ◌||◌, ◌&&◌, Bool, true, false, List, [], ◌∷◌, ◌++◌, length, Option, Some, None, is_some, slice_get, refl, sym, subst, arith, nat_lt, nat_le, if◌then◌else◌}
use Rattle.std.proofs.lemmas.Bool.Decides.{nat_tests}
use Rattle.flow_packet.specs.Hands.{packet_at}
use Rattle.flow_packet.specs.Held.{Held, without_packet, with_made}
use Rattle.flow_packet.specs.Edits.{Edit, Makes, Drops, Edits, makes, ComesBy}
use Rattle.flow_component.specs.declared.Answer.{Answer}
use Rattle.flow_component.specs.declared.Wish.{Wish}
use Rattle.flow_component.specs.declared.Wish.TheVariants as wishes
use Rattle.flow_component.specs.declared.OwnFail.TheVariants as owns
use Rattle.flow_component.specs.declared.Shape.{Shape}
use Rattle.flow_component.specs.Laws.{Lawful, Outcome, Obeys, IsAllowed, ReadyAfter, StaysReady, IsSteady}
use Rattle.flow_own.specs.declared.tape.End.{End}
use Rattle.flow_own.specs.declared.tape.End.TheVariants as ends
use Rattle.flow_own.specs.declared.tape.Entry.{Entry}
use Rattle.flow_own.specs.Acts.{Made, CanMake, CanDrop, CanAct, after_make, after_drops, after_acts}
use Rattle.flow_own.specs.Ends.{is_used}
use Rattle.flow_own.specs.Tapes.{OwnValue, own_uses, is_failure, has_failed, ReadyAs, NextAs, OwnReady, can_wish, can_end, outcome_by, after_entry, is_full, Records, is_answer, can_make, can_drop, can_play, differs, played, own_rules}

-- drops, as edits of the hands
abbrev drops_of : List ℕ → List Edit
drops_of [] = []
drops_of (id ∷ ids) = Drops id ∷ drops_of ids

drops-follow : (held : Held) (ids : List ℕ) → CanDrop held ids → Edits held (drops_of ids) (after_drops held ids)
drops-follow held [] can = refl
drops-follow held (id ∷ ids) can = (can.0, drops-follow (without_packet held id) ids can.1)

drops-make : (ids : List ℕ) → makes (drops_of ids) ≡ 0
drops-make [] = refl
drops-make (id ∷ ids) = drops-make ids

-- Acts that can be done are edits with at most one make.
pub comes-by : (held : Held) (made : Option Made) (ids : List ℕ) → CanAct held made ids → ComesBy held (after_acts held made ids)
comes-by held None ids can = record { edits = drops_of ids; follow = drops-follow held ids can.drops; one_make = omega (arith, drops-make ids) }
comes-by held (Some made) ids can = record {
  edits = Makes made.0 made.1 ∷ drops_of ids;
  follow = (can.makes.1, drops-follow (with_made held made.0 made.1) ids can.drops);
  one_make = omega (arith, drops-make ids);
}

both : (a b : Bool) → (a && b) ≡ true → (a ≡ true) × (b ≡ true)
both true b h = (refl, h)
both false b h = cc

less : (m n : ℕ) → nat_lt m n ≡ true → m < n
less m n h = grind (arith, nat_tests)

no_more : (m n : ℕ) → nat_le m n ≡ true → m ≤ n
no_more m n h = grind (arith, nat_tests)

allowed : (own : OwnValue) (held : Held) (wish : Wish) → can_wish own.shape own.used held wish ≡ true → IsAllowed own.shape (own_uses own) held wish
allowed own held (wishes.Receive port) can = less port.0 own.shape.inputs can
allowed own held (wishes.Send port id) can = let b = both (is_some (packet_at held.packets id)) (is_used own.used port.0) can in (b.1, b.0)
allowed own held (wishes.Level port) can = can
allowed own held wishes.Deactivate can = tt

obeys-by : (own own' : OwnValue) (old held : Held) (end : End) → ComesBy old held → can_end own.shape own.used held end ≡ true → Obeys own.shape (own_uses own) old (outcome_by own' held end)
obeys-by own own' old held (ends.Wish wish) comes can = (comes, allowed own held wish can)
obeys-by own own' old held (ends.Fail cause) comes can = (comes, tt)

-- nothing is done
comes-same : (held : Held) → ComesBy held held
comes-same held = record { edits = []; follow = refl; one_make = omega arith }

makes-can : (held : Held) (made : Option Made) → can_make held made ≡ true → CanMake held made
makes-can held None can = tt
makes-can held (Some made) can = let b = both (nat_le (length made.1) TEXT_LIMIT) (nat_lt (length held.packets) HANDS_LIMIT) can in (no_more (length made.1) TEXT_LIMIT b.0, less (length held.packets) HANDS_LIMIT b.1)

drops-can : (held : Held) (ids : List ℕ) → can_drop held ids ≡ true → CanDrop held ids
drops-can held [] can = tt
drops-can held (id ∷ ids) can = let b = both (is_some (packet_at held.packets id)) (can_drop (without_packet held id) ids) can in (b.0, drops-can (without_packet held id) ids b.1)

-- What it means that an entry can be played.
pub record Playable (shape : Shape) (used : List ℕ) (held : Held) (answer : Answer) (entry : Entry) : Type 0 where
  pub told : is_answer entry.answer answer ≡ true
  pub acts : CanAct held entry.made entry.dropped
  pub ends_well : can_end shape used (after_entry held entry) entry.end ≡ true

pub playable : (shape : Shape) (used : List ℕ) (held : Held) (answer : Answer) (entry : Entry) → can_play shape used held answer entry ≡ true → Playable shape used held answer entry
playable shape used held answer entry can =
    let a = both (is_answer entry.answer answer) (can_make held entry.made && (can_drop (after_make held entry.made) entry.dropped && can_end shape used (after_entry held entry) entry.end)) can in
    let b = both (can_make held entry.made) (can_drop (after_make held entry.made) entry.dropped && can_end shape used (after_entry held entry) entry.end) a.1 in
    let c = both (can_drop (after_make held entry.made) entry.dropped) (can_end shape used (after_entry held entry) entry.end) b.1 in
    record { told = a.0; acts = record { makes = makes-can held entry.made b.0; drops = drops-can (after_make held entry.made) entry.dropped c.0 }; ends_well = c.1 }

played-obeys : (own : OwnValue) (held : Held) (answer : Answer) (place : ℕ) (entry : Option Entry) → Obeys own.shape (own_uses own) held (played own held answer place entry)
played-obeys own held answer place None = (comes-same held, tt)
played-obeys own held answer place (Some entry) = by (can_play own.shape own.used held answer entry) refl
  where
    own' : OwnValue
    own' = record own { part = None; place = Some (place + 1) }

    by : (b : Bool) → can_play own.shape own.used held answer entry ≡ b → Obeys own.shape (own_uses own) held (if b then outcome_by own' (after_entry held entry) entry.end else differs own held)
    by true e = let p = playable own.shape own.used held answer entry e in obeys-by own own' held (after_entry held entry) entry.end (comes-by held entry.made entry.dropped p.acts) p.ends_well
    by false e = (comes-same held, tt)

obeys-as : (place : Option ℕ) (own : OwnValue) (held : Held) (answer : Answer) (outcome : Outcome OwnValue) → NextAs place own held answer outcome → Obeys own.shape (own_uses own) held outcome
obeys-as None own held answer outcome next =
    let entry = next.0 in
    subst (Obeys own.shape (own_uses own) held) (sym next.2)
    (obeys-by own (record own { part = None; tape = own.tape ++ entry ∷ [] }) held (after_entry held entry) entry.end (comes-by held entry.made entry.dropped next.1.acts) next.1.ends_well)
obeys-as (Some place) own held answer outcome next = subst (Obeys own.shape (own_uses own) held) (sym next) (played-obeys own held answer place (slice_get own.tape place))

-- what is ready for everything is ready after each wish
ready-after : (ready : Held → Answer → Type 0) → ((held : Held) (answer : Answer) → ready held answer) → (held : Held) (wish : Wish) → ReadyAfter ready held wish
ready-after ready all held (wishes.Receive port) = (λ s. all held _, λ packet s. all _ _, λ text s. all _ _)
ready-after ready all held (wishes.Send port id) = λ s. all _ _
ready-after ready all held (wishes.Level port) = λ n within s. all _ _
ready-after ready all held wishes.Deactivate = λ s. all _ _

stays-by : (own : OwnValue) (held : Held) (end : End) → (is_failure end ≡ false → (h : Held) (a : Answer) → OwnReady own h a) → StaysReady own_rules (outcome_by own held end)
stays-by own held (ends.Wish wish) ready = ready-after (OwnReady own) (ready refl) held wish
stays-by own held (ends.Fail cause) ready = tt

-- a tape that hasn't failed hasn't with one entry more that doesn't fail
pub has_failed-push : (tape : List Entry) (entry : Entry) → has_failed tape ≡ false → is_failure entry.end ≡ false → has_failed (tape ++ entry ∷ []) ≡ false
has_failed-push [] entry none last = rw last refl
has_failed-push (e ∷ tape) entry none last = by (is_failure e.end) none (has_failed-push tape entry)
  where
    by : (b : Bool) → (b || has_failed tape) ≡ false → (has_failed tape ≡ false → is_failure entry.end ≡ false → has_failed (tape ++ entry ∷ []) ≡ false) → (b || has_failed (tape ++ entry ∷ [])) ≡ false
    by true h rest = cc
    by false h rest = rest h last

played-stays : (own : OwnValue) (held : Held) (answer : Answer) (place : ℕ) (entry : Option Entry) → StaysReady own_rules (played own held answer place entry)
played-stays own held answer place None = tt
played-stays own held answer place (Some entry) = by (can_play own.shape own.used held answer entry)
  where
    by : (b : Bool) → StaysReady own_rules (if b then outcome_by (record own { part = None; place = Some (place + 1) }) (after_entry held entry) entry.end else differs own held)
    by true = stays-by (record own { part = None; place = Some (place + 1) }) (after_entry held entry) entry.end (λ e h a. tt)
    by false = tt

stays-as : (place : Option ℕ) (own : OwnValue) (held : Held) (answer : Answer) (outcome : Outcome OwnValue) → own.place ≡ place → ReadyAs place own.tape → NextAs place own held answer outcome → StaysReady own_rules outcome
stays-as None own held answer outcome e ready next =
    let entry = next.0 in
    let own' : OwnValue = record own { part = None; tape = own.tape ++ entry ∷ [] } in
    let P : Option ℕ → Type 0 = λ p. ReadyAs p own'.tape in
    subst (StaysReady own_rules) (sym next.2) (stays-by own' (after_entry held entry) entry.end (λ f h a. subst P (sym e) (has_failed-push own.tape entry ready f)))
stays-as (Some place) own held answer outcome e ready next = subst (StaysReady own_rules) (sym next) (played-stays own held answer place (slice_get own.tape place))

steady-by : (own own' : OwnValue) (held : Held) (end : End) → own'.shape ≡ own.shape → own_uses own' ≡ own_uses own → IsSteady own_rules own (outcome_by own' held end)
steady-by own own' held (ends.Wish wish) s u = record { shape = s; outputs = u }
steady-by own own' held (ends.Fail cause) s u = record { shape = s; outputs = u }

played-steady : (own : OwnValue) (held : Held) (answer : Answer) (place : ℕ) (entry : Option Entry) → IsSteady own_rules own (played own held answer place entry)
played-steady own held answer place None = record { shape = refl; outputs = refl }
played-steady own held answer place (Some entry) = by (can_play own.shape own.used held answer entry)
  where
    by : (b : Bool) → IsSteady own_rules own (if b then outcome_by (record own { part = None; place = Some (place + 1) }) (after_entry held entry) entry.end else differs own held)
    by true = steady-by own (record own { part = None; place = Some (place + 1) }) (after_entry held entry) entry.end refl refl
    by false = record { shape = refl; outputs = refl }

steady-as : (place : Option ℕ) (own : OwnValue) (held : Held) (answer : Answer) (outcome : Outcome OwnValue) → NextAs place own held answer outcome → IsSteady own_rules own outcome
steady-as None own held answer outcome next =
    let entry = next.0 in
    subst (IsSteady own_rules own) (sym next.2) (steady-by own (record own { part = None; tape = own.tape ++ entry ∷ [] }) (after_entry held entry) entry.end refl refl)
steady-as (Some place) own held answer outcome next = subst (IsSteady own_rules own) (sym next) (played-steady own held answer place (slice_get own.tape place))

-- an entry that a part may always come to: it fails, with the number 0 or since its tape is at the limit
abbrev giving_up : Bool → Answer → Entry
giving_up true answer = record { answer = answer; made = None; dropped = []; end = ends.Fail owns.TapeLimit }
giving_up false answer = record { answer = answer; made = None; dropped = []; end = ends.Fail (owns.Own 0) }

gives-up : (own : OwnValue) (held : Held) (answer : Answer) (b : Bool) → is_full own.tape ≡ b → Records own held answer (giving_up b answer)
gives-up own held answer true e = record { told = refl; acts = record { makes = tt; drops = tt }; few = omega arith; ends_well = refl; limit = sym e }
gives-up own held answer false e = record { told = refl; acts = record { makes = tt; drops = tt }; few = omega arith; ends_well = refl; limit = sym e }

outcome-as : (place : Option ℕ) (own : OwnValue) (held : Held) (answer : Answer) → (outcome : Outcome OwnValue) × NextAs place own held answer outcome
outcome-as None own held answer = let entry = giving_up (is_full own.tape) answer in (_, (entry, gives-up own held answer (is_full own.tape) refl, refl))
outcome-as (Some place) own held answer = (_, refl)

-- It keeps the laws of components.
pub own_lawful : Lawful own_rules
own_lawful = record {
  obeys = λ own held answer outcome _ next. obeys-as own.place own held answer outcome next;
  stays_ready = λ own held answer outcome ready next. stays-as own.place own held answer outcome refl ready next;
  steady = λ own held answer outcome next. steady-as own.place own held answer outcome next;
  has_outcome = λ own held answer _. outcome-as own.place own held answer;
}
