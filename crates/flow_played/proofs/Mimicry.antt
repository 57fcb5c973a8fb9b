-- The player of a tape mimics the part that was recorded on it.
use Rattle.flow_limits.specs.declared.TheConstants.{HANDS_LIMIT, TEXT_LIMIT}
use Rattle.std.proofs.Common.{◌≡◌, ℕ, ◌+◌, ◌++◌, Bool, true, false, List, [], ◌∷◌, length, Option, Some, None, is_some, refl, sym, ◌∙◌, ap, subst, arith, nat_lt, nat_le, eq-eqb, slice_get, length-append, if◌then◌else◌}
use Rattle.std.proofs.lemmas.Bool.Decides.{nat_tests}
use Rattle.flow_packet.specs.Hands.{packet_at}
use Rattle.flow_packet.specs.Held.{Held, without_packet}
use Rattle.flow_component.specs.declared.Answer.{Answer}
use Rattle.flow_component.specs.declared.Answer.TheVariants as answers
use Rattle.flow_component.specs.Laws.{Outcome, Wishes, Fails, component_after, Rules}
use Rattle.flow_component.specs.Outcomes.{outcome_as}
use Rattle.flow_own.specs.declared.tape.End.{End}
use Rattle.flow_own.specs.declared.tape.End.TheVariants as ends
use Rattle.flow_own.specs.declared.tape.Entry.{Entry}
use Rattle.flow_own.specs.Acts.{Made, CanMake, CanDrop, after_make}
use Rattle.flow_own.specs.Tapes.{OwnValue, Records, NextAs, OwnNext, is_answer, can_make, can_drop, can_play, after_entry, outcome_by, differs, played as played_outcome}
use Rattle.flow_model.specs.Replaced.{Mimics}
use Rattle.flow_own.specs.Mixed.{Mixed, Other, Own, MixedNext, mixed_rules}
use Rattle.flow_played.specs.Rules.{IsPlayed, played_rules}
use Rattle.flow_played.specs.Played.{player_of, played_by, HasTape}

same-answer : (answer : Answer) → is_answer answer answer ≡ true
same-answer answers.Start = refl
same-answer (answers.Got id) = eq-eqb id id refl
same-answer answers.End = refl
same-answer answers.Sent = refl
same-answer (answers.Level n) = eq-eqb n n refl

makes-true : (held : Held) (made : Option Made) → CanMake held made → can_make held made ≡ true
makes-true held None can = refl
makes-true held (Some made) can =
    let a : nat_le (length made.1) TEXT_LIMIT ≡ true = (let l = can.0 in grind (arith, nat_tests)) in
    let b : nat_lt (length held.packets) HANDS_LIMIT ≡ true = (let l = can.1 in grind (arith, nat_tests)) in
    rw (a, b) refl

drops-true : (held : Held) (ids : List ℕ) → CanDrop held ids → can_drop held ids ≡ true
drops-true held [] can = refl
drops-true held (id ∷ ids) can = let here : is_some (packet_at held.packets id) ≡ true = can.0 in rw here (drops-true (without_packet held id) ids can.1)

-- An entry that was recorded can be played with the same hands.
plays-true : (own : OwnValue) (held : Held) (answer : Answer) (entry : Entry) → Records own held answer entry → can_play own.shape own.used held answer entry ≡ true
plays-true own held answer entry r =
    let told : is_answer entry.answer answer ≡ true = ap (λ (a : Answer). is_answer a answer) r.told ∙ same-answer answer in
    let makes = makes-true held entry.made r.acts.makes in
    let drops = drops-true (after_make held entry.made) entry.dropped r.acts.drops in
    let ends_well = r.ends_well in
    rw (told, makes, drops, ends_well) refl

-- the entry behind the first ones
entry-behind : (tape : List Entry) (entry : Entry) (rest : List Entry) → slice_get (tape ++ entry ∷ rest) (length tape) ≡ Some entry
entry-behind [] entry rest = refl
entry-behind (e ∷ tape) entry rest = entry-behind tape entry rest

one-first : (tape : List Entry) (entry : Entry) (rest : List Entry) → (tape ++ entry ∷ []) ++ rest ≡ tape ++ entry ∷ rest
one-first [] entry rest = refl
one-first (e ∷ tape) entry rest = ap (λ (l : List Entry). e ∷ l) (one-first tape entry rest)

nothing-more : (tape : List Entry) → tape ++ [] ≡ tape
nothing-more [] = refl
nothing-more (e ∷ tape) = ap (λ (l : List Entry). e ∷ l) (nothing-more tape)

-- The part is no player, and the tape begins with its own.
pub record Behind (whole : List Entry) (own : OwnValue) : Type 0 where
  pub live : own.place ≡ None
  pub rest : List Entry
  pub begins : own.tape ++ rest ≡ whole

-- The same of a component of process p.
abbrev pub IsBehind : {K : Type 0} → (ℕ → List Entry) → ℕ → Mixed K → Type 0
IsBehind tapes p (Other component) = Unit {0}
IsBehind tapes p (Own own) = Behind (tapes p) own

after-by : (own : OwnValue) (held : Held) (end : End) → component_after (outcome_by own held end) ≡ own
after-by own held (ends.Wish wish) = refl
after-by own held (ends.Fail cause) = refl

as-by : (whole : List Entry) (own : OwnValue) (held : Held) (end : End) → outcome_as (player_of whole) (outcome_by own held end) ≡ outcome_by (player_of whole own) held end
as-by whole own held (ends.Wish wish) = refl
as-by whole own held (ends.Fail cause) = refl

-- a player stays one
still-player : (own : OwnValue) (held : Held) (answer : Answer) (place : ℕ) (entry : Option Entry) → own.place ≡ Some place → (component_after (played_outcome own held answer place entry)).place ≡ None → ⊥
still-player own held answer place None is none = let never : Some place ≡ None = sym is ∙ none in cc
still-player own held answer place (Some entry) is none = by (can_play own.shape own.used held answer entry) none
  where
    by : (b : Bool) → (component_after (if b then outcome_by (record own { part = None; place = Some (place + 1) }) (after_entry held entry) entry.end else differs own held)).place ≡ None → ⊥
    by true h =
        let never : Some (place + 1) ≡ None = ap (λ (o : OwnValue). o.place) (sym (after-by (record own { part = None; place = Some (place + 1) }) (after_entry held entry) entry.end)) ∙ h in cc
    by false h = let never : Some place ≡ None = sym is ∙ h in cc

-- the part with its entry more
abbrev longer : OwnValue → Entry → OwnValue
longer own entry = record own { part = None; tape = own.tape ++ entry ∷ [] }

-- what a recorded part came to, with the rest of the tape behind it
record Came (whole : List Entry) (own : OwnValue) (held : Held) (answer : Answer) (outcome : Outcome OwnValue) : Type 0 where
  live : own.place ≡ None
  entry : Entry
  rest : List Entry
  records : Records own held answer entry
  is : outcome ≡ outcome_by (longer own entry) (after_entry held entry) entry.end
  begins : own.tape ++ entry ∷ rest ≡ whole

came : (whole : List Entry) (place : Option ℕ) (own : OwnValue) (held : Held) (answer : Answer) (outcome : Outcome OwnValue) → own.place ≡ place → NextAs place own held answer outcome → Behind whole (component_after outcome)
    → Came whole own held answer outcome
came whole None own held answer outcome is next behind =
    let entry = next.0 in
    let after : component_after outcome ≡ longer own entry = ap (λ (o : Outcome OwnValue). component_after o) next.2 ∙ after-by (longer own entry) (after_entry held entry) entry.end in
    record {
      live = is;
      entry = entry;
      rest = behind.rest;
      records = next.1;
      is = next.2;
      begins = sym (one-first own.tape entry behind.rest) ∙ ap (λ (o : OwnValue). o.tape ++ behind.rest) (sym after) ∙ behind.begins;
    }
came whole (Some place) own held answer outcome is next behind =
    absurd (still-player own held answer place (slice_get own.tape place) is (ap (λ (o : Outcome OwnValue). (component_after o).place) (sym next) ∙ behind.live))

came-back : (whole : List Entry) (own : OwnValue) (held : Held) (answer : Answer) (outcome : Outcome OwnValue) → Came whole own held answer outcome → Behind whole own
came-back whole own held answer outcome c = record { live = c.live; rest = c.entry ∷ c.rest; begins = c.begins }

-- the player comes to the same
came-same : (whole : List Entry) (own : OwnValue) (held : Held) (answer : Answer) (outcome : Outcome OwnValue) → Came whole own held answer outcome → OwnNext (player_of whole own) held answer (outcome_as (player_of whole) outcome)
came-same whole own held answer outcome c =
    let entry = c.entry in
    let player = player_of whole own in
    let place = length own.tape in
    let there : slice_get whole place ≡ Some entry = ap (λ (tape : List Entry). slice_get tape place) (sym c.begins) ∙ entry-behind own.tape entry c.rest in
    let can = plays-true own held answer entry c.records in
    let moved : OwnValue = record player { part = None; place = Some (place + 1) } in
    let longer_place : length (own.tape ++ entry ∷ []) ≡ place + 1 = length-append own.tape (entry ∷ []) in
    let to : player_of whole (longer own entry) ≡ moved = λ i. record moved { place = Some (longer_place i) } in
    ap (outcome_as (player_of whole)) c.is ∙ as-by whole (longer own entry) (after_entry held entry) entry.end ∙ ap (λ (o : OwnValue). outcome_by o (after_entry held entry) entry.end) to
    ∙ ap (λ (b : Bool). if b then outcome_by moved (after_entry held entry) entry.end else differs player held) (sym can)
    ∙ ap (played_outcome player held answer place) (sym there)

module _ {K : Type 0} (rules : Rules K) (tapes : ℕ → List Entry) where
  own-after : (p : ℕ) (o : Outcome OwnValue) → IsBehind {K = K} tapes p (component_after (outcome_as Own o)) → Behind (tapes p) (component_after o)
  own-after p (Wishes own held wish) h = h
  own-after p (Fails own held cause) h = h

  own-twice : (p : ℕ) (o : Outcome OwnValue) → outcome_as (played_by {K = K} tapes p) (outcome_as Own o) ≡ outcome_as Own (outcome_as (player_of (tapes p)) o)
  own-twice p (Wishes own held wish) = refl
  own-twice p (Fails own held cause) = refl

  other-twice : (p : ℕ) (o : Outcome K) → outcome_as (played_by tapes p) (outcome_as Other o) ≡ outcome_as Other o
  other-twice p (Wishes component held wish) = refl
  other-twice p (Fails component held cause) = refl

  own-came : (p : ℕ) (own : OwnValue) (held : Held) (answer : Answer) (outcome : Outcome (Mixed K)) → (n : MixedNext rules (Own own) held answer outcome) → IsBehind tapes p (component_after outcome) → Came (tapes p) own held answer n.0
  own-came p own held answer outcome n h =
      came (tapes p) own.place own held answer n.0 refl n.1 (own-after p n.0 (subst (λ (o : Outcome (Mixed K)). IsBehind tapes p (component_after o)) n.2 h))

  before : (p : ℕ) (component : Mixed K) (held : Held) (answer : Answer) (outcome : Outcome (Mixed K)) → MixedNext rules component held answer outcome → IsBehind tapes p (component_after outcome) → IsBehind tapes p component
  before p (Other component) held answer outcome n h = tt
  before p (Own own) held answer outcome n h = came-back (tapes p) own held answer n.0 (own-came p own held answer outcome n h)

  same : (p : ℕ) (component : Mixed K) (held : Held) (answer : Answer) (outcome : Outcome (Mixed K)) → MixedNext rules component held answer outcome → IsBehind tapes p (component_after outcome)
      → MixedNext rules (played_by tapes p component) held answer (outcome_as (played_by tapes p) outcome)
  same p (Other component) held answer outcome n h = (n.0, n.1, ap (outcome_as (played_by tapes p)) n.2 ∙ other-twice p n.0)
  same p (Own own) held answer outcome n h =
      (outcome_as (player_of (tapes p)) n.0, came-same (tapes p) own held answer n.0 (own-came p own held answer outcome n h), ap (outcome_as (played_by tapes p)) n.2 ∙ own-twice p n.0)

  is-played : (p : ℕ) (component : Mixed K) → IsPlayed (played_by tapes p component)
  is-played p (Other component) = tt
  is-played p (Own own) = record { unmanned = refl; placed = refl }

  pub mimics : Mimics (mixed_rules rules) (played_rules rules) (IsBehind tapes) (played_by tapes)
  mimics = record { before = before; same = λ p component held answer outcome n h. (is-played p component, same p component held answer outcome n h) }

  -- A part whose tape is the whole tape is behind nothing.
  pub behind : (p : ℕ) (component : Mixed K) → HasTape tapes p component → IsBehind tapes p component
  behind p (Other component) h = tt
  behind p (Own own) h = record { live = h.0; rest = []; begins = nothing-more own.tape ∙ h.1 }
