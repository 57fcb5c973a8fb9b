-- A whole turn as one move of its process: what it leaves of the process, of the connections and of the past.
use Rattle.std.proofs.Common.{◌≡◌, ℕ, Bool, true, false, List, [], ◌∷◌, ◌++◌, append-nil, Some, refl, sym, ap, ◌∙◌, subst, cond, ◌==◌, nat_eq, ◌⊎◌, inl, inr, slice_get, slice_set, zero, suc, if◌then◌else◌}
use Rattle.flow_component.specs.declared.Answer.{Answer}
use Rattle.flow_component.specs.Laws.{Rules, Outcome, held_after}
use Rattle.flow_model.specs.declared.Stage.TheVariants as stages
use Rattle.flow_model.specs.States.{Process, State}
use Rattle.flow_model.specs.Events.{Event, event_of}
use Rattle.flow_model.specs.Turns.{process_after, channels_after, heard, signals_after, put_after, drops_after, past_after, Turn}
use Rattle.flow_model.specs.Works.{worked, dropped_by, past_worked}
use Rattle.flow_model.specs.Stages.{IsThoughtStage}
use Rattle.flow_model.specs.Schedules.{Settles, WholeTurn}
use Rattle.flow_model.proofs.Lists.{slice_get-set_same}

-- What is set twice is what was set last.
pub set-twice : {A : Type 0} (xs : List A) (i : ℕ) (a b : A) → slice_set (slice_set xs i a) i b ≡ slice_set xs i b
set-twice [] i a b = refl
set-twice (x ∷ xs) zero a b = refl
set-twice (x ∷ xs) (suc i) a b = ap (λ ys. x ∷ ys) (set-twice xs i a b)

-- Two things that an element is are the same.
pub one-of : {A : Type 0} (a b : A) → Some a ≡ Some b → a ≡ b
one-of a b h = cc

-- The dropped ids after a turn that is this event, and a work of process p that drops these.
abbrev pub dropped_then : (ℕ → List ℕ) → ℕ → Event → List ℕ → ℕ → List ℕ
dropped_then old p e dropped = λ r. if r == p then drops_after old p e r ++ dropped else drops_after old p e r

-- The state after process p was left so, by a turn that is this event and a work that drops these ids.
abbrev pub moved : {K : Type 0} → State K → ℕ → Process K → Event → Process K → List ℕ → State K
moved s p x e after dropped = record {
  kept = record { processes = slice_set s.kept.processes p after; channels = channels_after s.kept.channels p e };
  past = record {
    dropped = dropped_then s.past.dropped p e dropped;
    told = λ r. if r == p then s.past.told r ++ heard x e else s.past.told r;
    signals = signals_after s.past.signals p e;
    put = put_after s.past.put p e;
  };
}

-- What a process comes to that a turn left so: it stays where no answer is pending, and else does its work, which drops these ids.
abbrev pub ComesTo : {K : Type 0} → Rules K → Process K → Process K → List ℕ → Type 0
ComesTo {K} rules z after dropped =
    (IsThoughtStage z.stage × (after ≡ z) × (dropped ≡ []))
    ⊎ ((answer : Answer) × (outcome : Outcome K) × (z.stage ≡ stages.Told answer) × rules.next z.component z.held answer outcome × (after ≡ worked z outcome) × (dropped ≡ dropped_by z.held (held_after outcome)))

-- A whole turn of process p, as a move.
pub record Move {K : Type 0} (rules : Rules K) (s : State K) (p : ℕ) (event : Event) (s' : State K) : Type 0 where
  pub before : Process K
  pub level : ℕ
  pub there : slice_get s.kept.processes p ≡ Some before
  pub happens : event_of s.kept.channels before level ≡ Some event
  pub after : Process K
  pub dropped : List ℕ
  pub comes : ComesTo rules (process_after before event) after dropped
  pub is : s' ≡ moved s p before event after dropped

same-state : {K : Type 0} (a b : State K) → a.kept.processes ≡ b.kept.processes → a.kept.channels ≡ b.kept.channels → a.past ≡ b.past → a ≡ b
same-state a b processes channels past = λ i. record { kept = record { processes = processes i; channels = channels i }; past = past i }

drops-none : (b : Bool) (ids : List ℕ) → ids ≡ cond b (ids ++ []) ids
drops-none true ids = sym (append-nil ids)
drops-none false ids = refl

module _ {K : Type 0} (rules : Rules K) (s : State K) (p : ℕ) (e : Event) (s' : State K) where
  -- a whole turn is a move
  pub whole-move : WholeTurn rules s p e s' → Move rules s p e s'
  whole-move whole = settle whole.0 whole.1 whole.2
    where
      settle : (mid : State K) → Turn s p e mid → Settles rules mid p s' → Move rules s p e s'
      settle mid turn (inl none) =
          let x = turn.kept.before in
          let z = process_after x e in
          let there : slice_get mid.kept.processes p ≡ Some z = ap (λ (ps : List (Process K)). slice_get ps p) turn.kept.processes ∙ slice_get-set_same s.kept.processes p x z turn.kept.there in
          let past : s'.past ≡ (moved s p x e z []).past =
          ap (λ (t : State K). t.past) none.1 ∙ turn.past ∙ (λ i. record { dropped = λ r. drops-none (nat_eq r p) (drops_after s.past.dropped p e r) i; told = (past_after s.past p x e).told; signals = signals_after s.past.signals p e; put = put_after s.past.put p e }) in
          record {
            before = x;
            level = turn.kept.level;
            there = turn.kept.there;
            happens = turn.kept.happens;
            after = z;
            dropped = [];
            comes = inl (none.0 z there, refl, refl);
            is = same-state s' (moved s p x e z []) (ap (λ (t : State K). t.kept.processes) none.1 ∙ turn.kept.processes) (ap (λ (t : State K). t.kept.channels) none.1 ∙ turn.kept.channels) past;
          }
      settle mid turn (inr work) =
          let x = turn.kept.before in
          let z = process_after x e in
          let there : slice_get mid.kept.processes p ≡ Some z = ap (λ (ps : List (Process K)). slice_get ps p) turn.kept.processes ∙ slice_get-set_same s.kept.processes p x z turn.kept.there in
          let same : work.before ≡ z = one-of work.before z (sym work.kept.there ∙ there) in
          let outcome = work.outcome in
          let after = worked z outcome in
          let dropped = dropped_by z.held (held_after outcome) in
          let processes : s'.kept.processes ≡ slice_set s.kept.processes p after =
          work.kept.processes ∙ ap (λ (ps : List (Process K)). slice_set ps p (worked work.before outcome)) turn.kept.processes ∙ set-twice s.kept.processes p z (worked work.before outcome) ∙ ap (λ (y : Process K). slice_set s.kept.processes p (worked y outcome)) same in
          let past : s'.past ≡ past_worked (past_after s.past p x e) p z.held (held_after outcome) =
          work.past ∙ (λ i. past_worked (turn.past i) p (same i).held (held_after outcome)) in
          record {
            before = x;
            level = turn.kept.level;
            there = turn.kept.there;
            happens = turn.kept.happens;
            after = after;
            dropped = dropped;
            comes = inr (
              work.kept.answer,
              outcome,
              subst (λ (y : Process K). y.stage ≡ stages.Told work.kept.answer) same work.kept.told,
              subst (λ (y : Process K). rules.next y.component y.held work.kept.answer outcome) same work.kept.comes,
              refl,
              refl,
            );
            is = same-state s' (moved s p x e after dropped) processes (work.kept.channels ∙ turn.kept.channels) past;
          }

  -- a move is a whole turn
  pub move-whole : Move rules s p e s' → WholeTurn rules s p e s'
  move-whole move = (mid, record { kept = record { before = x; level = move.level; there = move.there; happens = move.happens; processes = refl; channels = refl }; past = refl }, settles move.comes)
    where
      x : Process K
      x = move.before

      z : Process K
      z = process_after x e

      mid : State K
      mid = record { kept = record { processes = slice_set s.kept.processes p z; channels = channels_after s.kept.channels p e }; past = past_after s.past p x e }

      there : slice_get mid.kept.processes p ≡ Some z
      there = slice_get-set_same s.kept.processes p x z move.there

      settles : ComesTo rules z move.after move.dropped → Settles rules mid p s'
      settles (inl none) =
          inl (
            λ y at. subst (λ (w : Process K). IsThoughtStage w.stage) (one-of z y (sym there ∙ at)) none.0,
            same-state s' mid
                (ap (λ (t : State K). t.kept.processes) move.is ∙ ap (slice_set s.kept.processes p) none.1)
                (ap (λ (t : State K). t.kept.channels) move.is)
                (ap (λ (t : State K). t.past) move.is
                ∙ (λ i. record { dropped = dropped_then s.past.dropped p e (none.2 i); told = (past_after s.past p x e).told; signals = signals_after s.past.signals p e; put = put_after s.past.put p e })
                ∙ (λ i. record { dropped = λ r. sym (drops-none (nat_eq r p) (drops_after s.past.dropped p e r)) i; told = (past_after s.past p x e).told; signals = signals_after s.past.signals p e; put = put_after s.past.put p e })),
          )
      settles (inr work) =
          inr (record {
            before = z;
            outcome = work.1;
            kept = record {
              answer = work.0;
              there = there;
              told = work.2;
              comes = work.3;
              processes = ap (λ (t : State K). t.kept.processes) move.is ∙ ap (slice_set s.kept.processes p) work.4 ∙ sym (set-twice s.kept.processes p z (worked z work.1));
              channels = ap (λ (t : State K). t.kept.channels) move.is;
            };
            past = ap (λ (t : State K). t.past) move.is ∙ (λ i. record { dropped = dropped_then s.past.dropped p e (work.5 i); told = (past_after s.past p x e).told; signals = signals_after s.past.signals p e; put = put_after s.past.put p e });
          })
