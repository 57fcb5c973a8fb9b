-- A net goes on by the turns of a journal, one after another.
use Rattle.std.proofs.Common.{◌≡◌, ◌≢◌, inl, inr, ℕ, ◌+◌, ◌<◌, ◌≤◌, Bool, true, false, nat_eq, get_or, List, [], ◌∷◌, ◌++◌, length, Some, suc, zero, take, drop, refl, sym, ap, ◌∙◌, subst, arith, slice_get, length-set, length-append, append_assoc, append-nil}
use Rattle.std.specs.Prelude.{Result, Ok, Err, OnOk}
use Rattle.std.proofs.lemmas.List.{take-append-drop}
use Rattle.flow_component.specs.Laws.{Rules, Lawful}
use Rattle.flow_model.specs.States.{Process, State}
use Rattle.flow_model.specs.Events.{seen_by}
use Rattle.flow_model.specs.Stages.{IsThoughtStage}
use Rattle.flow_model.specs.Schedules.{then_turns, Leads, Settles, IsThought}
use Rattle.flow_model.specs.Schedules.{Journal as Schedule}
use Rattle.flow_model.specs.Stands.{StandsForOpen}
use Rattle.flow_model.specs.Fit.{Fit}
use Rattle.flow_model.proofs.Journals.{Leads-then}
use Rattle.flow_machine.specs.Values.{NetValue, shown_net}
use Rattle.flow_machine.specs.Thoughts.{SettlesBody}
use Rattle.flow_machine.specs.Logs.{Logged, journal_of, Remembers, turns_made}
use Rattle.flow_machine.specs.Solo.{Goes, SettlesNet, all_settled}
use Rattle.flow_machine.proofs.Standings.{process-in}
use Rattle.flow_machine.proofs.FitLemmas.{goes-by, goes-same, goes-work}
use Rattle.flow_machine.proofs.SoloLemmas.{journal_of-append, remember-none, remember-then}
use Rattle.flow_machine.proofs.Reaching.{remember-one, remember-kept}
use Rattle.flow_journal.specs.declared.merge.Journal.{Journal}
use Rattle.flow_journal.specs.declared.refusal.Refusal.{Refusal}
use Rattle.flow_journal.specs.declared.refusal.Refusal.TheVariants.{Seen}
use Rattle.flow_journal.specs.declared.refusal.ReplayStop.{ReplayStop}
use Rattle.flow_journal.specs.declared.refusal.ReplayStop.TheVariants.{NoTurn, NoMemory}
use Rattle.flow_journal.specs.Replays.{StopsAtOnce, replayed, StopsFrom}
use Rattle.flow_journal.specs.Replaying.{MadeTurn, RefusesTurn, LeadsTo, LeadsOn, StopsMaking}
use Rattle.flow_journal.proofs.Refusing.{refuses}

-- an element more, and what is left from it on
taken-more : {A : Type 0} (xs : List A) (k : ℕ) (x : A) → slice_get xs k ≡ Some x → take (k + 1) xs ≡ take k xs ++ x ∷ []
taken-more [] k x there = absurd (cc)
taken-more (y ∷ xs) zero x there = (let same : y ≡ x = cc in ap (λ z. z ∷ []) same)
taken-more (y ∷ xs) (suc k) x there =
    let at : suc k + 1 ≡ suc (k + 1) = omega arith in
    ap (λ (n : ℕ). take n (y ∷ xs)) at ∙ ap (λ zs. y ∷ zs) (taken-more xs k x there)

dropped-at : {A : Type 0} (xs : List A) (k : ℕ) (x : A) → slice_get xs k ≡ Some x → drop k xs ≡ x ∷ drop (k + 1) xs
dropped-at [] k x there = absurd (cc)
dropped-at (y ∷ xs) zero x there = (let same : y ≡ x = cc in ap (λ z. z ∷ xs) same)
dropped-at (y ∷ xs) (suc k) x there =
    let at : suc (k + 1) ≡ suc k + 1 = omega arith in
    dropped-at xs k x there ∙ ap (λ (n : ℕ). x ∷ drop n (y ∷ xs)) at

taken-length : {A : Type 0} (xs : List A) (k : ℕ) (x : A) → slice_get xs k ≡ Some x → length (take k xs) ≡ k
taken-length [] k x there = absurd (cc)
taken-length (y ∷ xs) zero x there = refl
taken-length (y ∷ xs) (suc k) x there = omega (arith, taken-length xs k x there)

taken-all : {A : Type 0} (xs : List A) (k : ℕ) → length xs ≤ k → take k xs ≡ xs
taken-all [] zero long = refl
taken-all [] (suc k) long = refl
taken-all (x ∷ xs) zero long = absurd (omega (arith, long))
taken-all (x ∷ xs) (suc k) long = ap (λ zs. x ∷ zs) (taken-all xs k (omega (arith, long)))

none-of : (log : List Logged) → length log ≡ 0 → log ≡ []
none-of [] is = refl
none-of (t ∷ log) is = absurd (omega (arith, is))

pub nothing-left : (left : List ℕ) → length left ≡ 0 → left ≡ []
nothing-left [] is = refl
nothing-left (n ∷ left) is = absurd (omega (arith, is))

pub something-left : (left : List ℕ) → 0 < length left → left ≢ []
something-left [] some = absurd (omega (arith, some))
something-left (n ∷ left) some = λ is. cc

-- a turn and its work leave as many bodies
pub as-many-made : {K : Type 0} (old : NetValue K) (p stamp : ℕ) (seen left : List ℕ) (new : NetValue K) → MadeTurn old p stamp seen left new → length new.bodies ≡ length old.bodies
as-many-made old p stamp seen left new made = ap length made.turn.bodies ∙ length-set old.bodies p made.turn.after

-- A place at which a member stands lies within the list.
pub within-of : {A : Type 0} (xs : List A) (i : ℕ) (x : A) → slice_get xs i ≡ Some x → i < length xs
within-of [] i x is = absurd (cc)
within-of (y ∷ xs) zero x is = omega arith
within-of (y ∷ xs) (suc i) x is = omega (arith, within-of xs i x is)

-- The process of a turn that was made is one of the net's.
pub made-within : {K : Type 0} (old : NetValue K) (p stamp : ℕ) (seen left : List ℕ) (new : NetValue K) → MadeTurn old p stamp seen left new → p < length new.bodies
made-within old p stamp seen left new made = omega (arith, as-many-made old p stamp seen left new made, within-of old.bodies p made.turn.before made.turn.there)

module _ {K : Type 0} (rules : Rules K) (lawful : Lawful rules) where
  -- the work of a process, in a state
  settles-in : (old : NetValue K) (p : ℕ) (new : NetValue K) → SettlesNet rules old p new → (s : State K) → Fit rules s → StandsForOpen (shown_net old) s → (s' : State K) × Settles rules s p s' × Fit rules s' × StandsForOpen (shown_net new) s'
  settles-in old p new settle s fit stands = by settle.settles
    where
      by : SettlesBody rules settle.before settle.after → (s' : State K) × Settles rules s p s' × Fit rules s' × StandsForOpen (shown_net new) s'
      by (inl same) =
          let thought : IsThought s.kept p = λ x is. (let h : Some settle.before.process ≡ Some x = sym (process-in old s p settle.before stands settle.there) ∙ is in let e : settle.before.process ≡ x = cc in subst (λ (y : Process K). IsThoughtStage y.stage) e same.0) in
          (s, inl (thought, refl), fit, goes-same rules lawful old p settle.before settle.after new settle.there same.1 settle.bodies settle.channels s stands)
      by (inr work) =
          let g = goes-work rules lawful old p settle.before settle.after new settle.there work settle.bodies settle.channels s fit stands in
          (g.0, inr g.1, g.2, g.3)

  -- before its first turn the journal has led nowhere
  pub leads-none : (journal : Journal) (start : NetValue K) (n : ℕ) → Goes rules (LeadsTo rules journal 0 journal.seen) start n start n
  leads-none journal start n = ([], omega arith, record { remembers = remember-none n start.bodies; states = λ s fit stands. (s, record { turns = refl; seen = refl; leads = (refl, refl) }, fit, stands); connections = refl })

  -- it leads on by a turn and its work
  pub leads-more : (journal : Journal) (start old mid new : NetValue K) (p n m place : ℕ) (seen left : List ℕ) → Goes rules (LeadsTo rules journal place seen) start n old m → MadeTurn old p m seen left mid → SettlesNet rules mid p new → slice_get journal.turns place ≡ Some p
      → Goes rules (LeadsTo rules journal (place + 1) left) start n new (m + 1)
  leads-more journal start old mid new p n m place seen left goes made settle there =
      let log = goes.0 in
      let e = made.event in
      let one : Logged = record { process = p; seen = seen_by e } in
      let count_mid : length mid.bodies ≡ length old.bodies = ap length made.turn.bodies ∙ length-set old.bodies p made.turn.after in
      let count_new : length mid.bodies ≡ length new.bodies = sym (ap length settle.bodies ∙ length-set mid.bodies p settle.after) in
      let more : Remembers m old.bodies (one ∷ []) new.bodies =
      remember-then old.bodies mid.bodies new.bodies m (m + 1) (one ∷ []) [] (remember-one old mid p made.level m e made.turn) (omega arith)
      (remember-kept mid.bodies new.bodies p (m + 1) settle.before settle.after settle.there settle.keeps settle.bodies) count_new in (
        log ++ one ∷ [],
        omega (arith, goes.1, length-append log (one ∷ [])),
        record {
          remembers = remember-then start.bodies old.bodies new.bodies n m log (one ∷ []) goes.2.remembers goes.1 more (sym count_mid ∙ count_new);
          states = λ s fit stands.
              let g = goes.2.states s fit stands in
              let t = goes-by rules old p made.level e m mid made.turn g.0 g.2 g.3 in
              let w = settles-in mid p new settle t.0 t.2 t.3 in
              let single : Schedule = record { turns = p ∷ []; seen = seen_by e ++ [] } in
              let step : Leads rules g.0 single w.0 = (e, w.0, [], (t.0, t.1, w.1), refl, (refl, refl)) in
              let journal_is : journal_of (log ++ one ∷ []) ≡ then_turns (journal_of log) single = journal_of-append log (one ∷ []) in
              let leads : Leads rules s (then_turns (journal_of log) single) w.0 = Leads-then rules s g.0 w.0 (journal_of log) single g.1.leads step in (
                w.0,
                record {
                  turns = ap (λ (j : Schedule). j.turns) journal_is ∙ ap (λ (ts : List ℕ). ts ++ p ∷ []) g.1.turns ∙ sym (taken-more journal.turns place p there);
                  seen = ap (λ (j : Schedule). j.seen ++ left) journal_is ∙ append_assoc (journal_of log).seen (seen_by e ++ []) left
                      ∙ ap (λ (ns : List ℕ). (journal_of log).seen ++ ns) (append_assoc (seen_by e) [] left ∙ sym made.numbers) ∙ g.1.seen;
                  leads = subst (λ (j : Schedule). Leads rules s j w.0) (sym journal_is) leads;
                },
                w.2,
                w.3,
              );
          connections = settle.connections ∙ made.turn.connections ∙ goes.2.connections;
        },
      )

  -- where all turns were made and no number is left, the whole journal leads on
  pub leads-whole : (journal : Journal) (start new : NetValue K) (n m place : ℕ) (left : List ℕ) → length journal.turns ≤ place → left ≡ [] → Goes rules (LeadsTo rules journal place left) start n new m → Goes rules (LeadsOn rules journal) start n new m
  leads-whole journal start new n m place left all none goes = (
    goes.0,
    goes.1,
    record {
      remembers = goes.2.remembers;
      states = λ s fit stands.
          let g = goes.2.states s fit stands in
          let turns : (journal_of goes.0).turns ≡ journal.turns = g.1.turns ∙ taken-all journal.turns place all in
          let seen : (journal_of goes.0).seen ≡ journal.seen = sym (append-nil (journal_of goes.0).seen) ∙ ap (λ (ns : List ℕ). (journal_of goes.0).seen ++ ns) (sym none) ∙ g.1.seen in
          (g.0, (λ i. record { turns = turns i; seen = seen i }, g.1.leads), g.2, g.3);
      connections = goes.2.connections;
    },
  )

  -- where a turn is refused, the journal stops there
  pub stops-at : (journal : Journal) (start old : NetValue K) (n m place : ℕ) (left : List ℕ) (p : ℕ) (refusal : Refusal) → Goes rules (LeadsTo rules journal place left) start n old m → slice_get journal.turns place ≡ Some p → RefusesTurn old p left refusal
      → StopsMaking rules start journal (NoTurn place p refusal)
  stops-at journal start old n m place left p refusal goes there refused = λ s fit stands.
      (let g = goes.2.states s fit stands in
      let turns : journal.turns ≡ (journal_of goes.0).turns ++ drop place journal.turns = sym (ap (λ (ts : List ℕ). ts ++ drop place journal.turns) g.1.turns ∙ take-append-drop place journal.turns) in
      let at : StopsAtOnce g.0.kept (p ∷ drop (place + 1) journal.turns) left p refusal = (refl, refuses old g.0 p left refusal g.3 refused) in
      record {
        front = journal_of goes.0;
        back = record { turns = drop place journal.turns; seen = left };
        mid = g.0;
        whole = λ i. record { turns = turns i; seen = sym g.1.seen i };
        before = ap length g.1.turns ∙ taken-length journal.turns place p there;
        leads = g.1.leads;
        stops = subst (λ (ts : List ℕ). StopsAtOnce g.0.kept ts left p refusal) (sym (dropped-at journal.turns place p there)) at;
      })

  -- where numbers are left behind the last turn, it stops there
  pub stops-behind : (journal : Journal) (start old : NetValue K) (n m place : ℕ) (left : List ℕ) → length journal.turns ≤ place → left ≢ [] → Goes rules (LeadsTo rules journal place left) start n old m
      → StopsMaking rules start journal (NoTurn (length journal.turns) 0 Seen)
  stops-behind journal start old n m place left all some goes = λ s fit stands.
      (let g = goes.2.states s fit stands in
      let front : (journal_of goes.0).turns ≡ journal.turns = g.1.turns ∙ taken-all journal.turns place all in
      let turns : journal.turns ≡ (journal_of goes.0).turns ++ [] = sym (append-nil (journal_of goes.0).turns ∙ front) in
      record {
        front = journal_of goes.0;
        back = record { turns = []; seen = left };
        mid = g.0;
        whole = λ i. record { turns = turns i; seen = sym g.1.seen i };
        before = ap length front;
        leads = g.1.leads;
        stops = (some, refl, refl);
      })

  -- all pending works, and then the whole journal
  pub replays : (journal : Journal) (old mid new : NetValue K) → length mid.bodies ≡ length new.bodies → turns_made mid ≡ turns_made old → Goes rules (all_settled rules) old (turns_made old) mid (turns_made old) → Goes rules (LeadsOn rules journal) mid (turns_made mid) new (turns_made new)
      → Goes rules (replayed rules journal) old (turns_made old) new (turns_made new)
  replays journal old mid new count made settled goes =
      let none : settled.0 ≡ [] = none-of settled.0 (omega (arith, settled.1)) in
      let rest : Remembers (turns_made old) mid.bodies goes.0 new.bodies = subst (λ (k : ℕ). Remembers k mid.bodies goes.0 new.bodies) made goes.2.remembers in
      let whole : Remembers (turns_made old) old.bodies (settled.0 ++ goes.0) new.bodies = remember-then old.bodies mid.bodies new.bodies (turns_made old) (turns_made old) settled.0 goes.0 settled.2.remembers settled.1 rest count in (
        goes.0,
        goes.1 ∙ ap (λ (k : ℕ). k + length goes.0) made,
        record {
          remembers = subst (λ (log : List Logged). Remembers (turns_made old) old.bodies (log ++ goes.0) new.bodies) none whole;
          states = λ s fit stands.
              let t = settled.2.states s fit stands in
              let g = goes.2.states t.0 t.2 t.3 in
              (g.0, (g.1.0, (t.0, t.1.1, g.1.1)), g.2, g.3);
          connections = goes.2.connections ∙ settled.2.connections;
        },
      )

  -- what stops after all pending works stops from the first state
  pub stops-from : (journal : Journal) (old mid : NetValue K) (stop : ReplayStop) → Goes rules (all_settled rules) old (turns_made old) mid (turns_made old) → StopsMaking rules mid journal stop → StopsFrom rules old journal stop
  stops-from journal old mid (NoTurn place p refusal) settled stops = λ s fit stands. (let t = settled.2.states s fit stands in (t.0, t.1.1, stops t.0 t.2 t.3))
  stops-from journal old mid NoMemory settled stops = tt

-- an element of a list of numbers, as an element that is there
pub at-place : (xs : List ℕ) (k n : ℕ) → k < length xs → n ≡ get_or xs k 0 → slice_get xs k ≡ Some n
at-place [] k n within is = absurd (omega (arith, within))
at-place (x ∷ xs) zero n within is = cc
at-place (x ∷ xs) (suc k) n within is = at-place xs k n (omega (arith, within)) is

-- A list that isn't empty by its test isn't empty.
pub not-empty : (left : List ℕ) (empty : Bool) → empty ≡ nat_eq (length left) 0 → empty ≡ false → left ≢ []
not-empty [] empty is some = absurd (let both : true ≡ false = sym is ∙ some in cc)
not-empty (n ∷ left) empty is some = λ none. cc

-- what two facts of an answer without a stop lead to
pub on-ok : {T E : Type 0} (r : Result T E) (P Q R : Type 0) → (P → Q → R) → OnOk r P → OnOk r Q → OnOk r R
on-ok (Ok x) P Q R to p q = to p q
on-ok (Err e) P Q R to p q = tt
