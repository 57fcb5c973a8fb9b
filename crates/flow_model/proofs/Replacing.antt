-- A schedule stands where components are replaced by others that come to the same.
use Rattle.std.proofs.Common.{◌≡◌, ◌≢◌, ◌⊎◌, ℕ, zero, suc, ◌==◌, List, [], ◌∷◌, ◌++◌, Some, refl, ap, sym, subst, ◌∙◌, inl, inr, slice_get, slice_set, if◌then◌else◌}
use Rattle.flow_component.specs.declared.Wish.{Wish}
use Rattle.flow_component.specs.declared.Wish.TheVariants as wishes
use Rattle.flow_component.specs.Happenings.{Happening}
use Rattle.flow_component.specs.Laws.{Rules, Outcome, Wishes, Fails, held_after, component_after}
use Rattle.flow_component.specs.Outcomes.{outcome_as}
use Rattle.flow_model.specs.declared.Stage.{Stage}
use Rattle.flow_model.specs.declared.Stage.TheVariants as stages
use Rattle.flow_model.specs.States.{Process, Past, State}
use Rattle.flow_model.specs.Events.{Event, Starts, Closes, Look, looks, stage_event, wish_event}
use Rattle.flow_model.specs.Turns.{Turn, at_stage, process_after, past_after, heard, closing_on}
use Rattle.flow_model.specs.Works.{Work, worked, past_worked}
use Rattle.flow_model.specs.Stages.{IsThoughtStage}
use Rattle.flow_model.specs.Schedules.{IsThought, Settles, LeadsBy, Leads, Journal}
use Rattle.flow_model.specs.Replaced.{with_component, all_replaced, replaced, OfEach, Mimics}
use Rattle.flow_model.proofs.Lists.{slice_get-set_same, slice_get-set_other, same_or_not}

-- a process that is there is there with its other component
pub replaced-there : {K L : Type 0} (other : ℕ → K → L) (xs : List (Process K)) (p : ℕ) (x : Process K) → slice_get xs p ≡ Some x → slice_get (all_replaced other xs) p ≡ Some (with_component x (other p x.component))
replaced-there other [] p x is = cc
replaced-there {K} {L} other (y ∷ xs) zero x is = let e : y ≡ x = cc in ap (λ (z : Process K). Some (with_component z (other 0 z.component))) e
replaced-there other (y ∷ xs) (suc p) x is = replaced-there (λ q. other (suc q)) xs p x is

-- and a process that is there with another component is there
pub replaced-from : {K L : Type 0} (other : ℕ → K → L) (xs : List (Process K)) (p : ℕ) (y : Process L) → slice_get (all_replaced other xs) p ≡ Some y → (x : Process K) × (slice_get xs p ≡ Some x) × (with_component x (other p x.component) ≡ y)
replaced-from other [] p y is = cc
replaced-from other (x ∷ xs) zero y is = (x, refl, (let e : with_component x (other 0 x.component) ≡ y = cc in e))
replaced-from other (x ∷ xs) (suc p) y is = replaced-from (λ q. other (suc q)) xs p y is

-- a process that changes does so with its other component
replaced-set : {K L : Type 0} (other : ℕ → K → L) (xs : List (Process K)) (p : ℕ) (x : Process K) → all_replaced other (slice_set xs p x) ≡ slice_set (all_replaced other xs) p (with_component x (other p x.component))
replaced-set other [] p x = refl
replaced-set other (y ∷ xs) zero x = refl
replaced-set other (y ∷ xs) (suc p) x = ap (λ zs. with_component y (other 0 y.component) ∷ zs) (replaced-set (λ q. other (suc q)) xs p x)

-- what a process does next doesn't depend on its component
wish-same : {K L : Type 0} (channels : List Look) (x : Process K) (c : L) (n : ℕ) (wish : Wish) → wish_event channels (with_component x c) n wish ≡ wish_event channels x n wish
wish-same channels x c n (wishes.Receive port) = refl
wish-same channels x c n wish = refl

pub stage-same : {K L : Type 0} (channels : List Look) (x : Process K) (c : L) (n : ℕ) (stage : Stage) → stage_event channels (with_component x c) n stage ≡ stage_event channels x n stage
stage-same channels x c n (stages.Wishing wish) = wish-same channels x c n wish
stage-same channels x c n stage = refl

closing-same : {K L : Type 0} (x : Process K) (c : L) (stage : Stage) → closing_on (with_component x c) stage ≡ closing_on x stage
closing-same x c stages.Idle = refl
closing-same x c stage = refl

-- nor what a turn makes of it
after-same : {K L : Type 0} (x : Process K) (c : L) (event : Event) → process_after (with_component x c) event ≡ with_component (process_after x event) c
after-same x c (Closes output d) = ap (λ (stage : Stage). with_component (at_stage x stage) c) (closing-same x c x.stage)
after-same x c event = refl

pub component-same : {K : Type 0} (x : Process K) (event : Event) → (process_after x event).component ≡ x.component
component-same x Starts = refl
component-same x event = refl

heard-same : {K L : Type 0} (x : Process K) (c : L) (event : Event) → heard (with_component x c) event ≡ heard x event
heard-same x c Starts = refl
heard-same x c event = refl

past-same : {K L : Type 0} (past : Past) (p : ℕ) (x : Process K) (c : L) (event : Event) → past_after past p (with_component x c) event ≡ past_after past p x event
past-same past p x c event = ap {B = Past} (λ (hs : List Happening). record { dropped = (past_after past p x event).dropped; told = λ q. if q == p then past.told q ++ hs else past.told q; signals = (past_after past p x event).signals; put = (past_after past p x event).put }) (heard-same x c event)

module _ {K L : Type 0} (rules : Rules K) (rules' : Rules L) (holds : ℕ → K → Type 0) (other : ℕ → K → L) (mimics : Mimics rules rules' holds other) where
  -- a turn with the other components
  pub turn-replaced : (s : State K) (p : ℕ) (event : Event) (s' : State K) → Turn s p event s' → Turn (replaced other s) p event (replaced other s')
  turn-replaced s p event s' turn =
      let x = turn.kept.before in
      let c = other p x.component in
      record {
        kept = record {
          before = with_component x c;
          level = turn.kept.level;
          there = replaced-there other s.kept.processes p x turn.kept.there;
          happens = stage-same (looks s.kept.channels) x c turn.kept.level x.stage ∙ turn.kept.happens;
          processes = ap (all_replaced other) turn.kept.processes ∙ replaced-set other s.kept.processes p (process_after x event)
              ∙ ap (λ (d : K). slice_set (all_replaced other s.kept.processes) p (with_component (process_after x event) (other p d))) (component-same x event)
              ∙ ap (slice_set (all_replaced other s.kept.processes) p) (sym (after-same x c event));
          channels = turn.kept.channels;
        };
        past = turn.past ∙ sym (past-same s.past p x c event);
      }

  worked-same : (p : ℕ) (x : Process K) (outcome : Outcome K) → worked (with_component x (other p x.component)) (outcome_as (other p) outcome) ≡ with_component (worked x outcome) (other p (worked x outcome).component)
  worked-same p x (Wishes component held wish) = refl
  worked-same p x (Fails component held cause) = refl

  held-same : (p : ℕ) (outcome : Outcome K) → held_after (outcome_as (other p) outcome) ≡ held_after outcome
  held-same p (Wishes component held wish) = refl
  held-same p (Fails component held cause) = refl

  worked-component : (x : Process K) (outcome : Outcome K) → (worked x outcome).component ≡ component_after outcome
  worked-component x (Wishes component held wish) = refl
  worked-component x (Fails component held cause) = refl

  -- what holds of the component after a work
  holds-after : (s : State K) (p : ℕ) (s' : State K) → (work : Work rules s p s') → OfEach holds s' → holds p (component_after work.outcome)
  holds-after s p s' work each =
      let here : slice_get s'.kept.processes p ≡ Some (worked work.before work.outcome) =
      ap (λ (ps : List (Process K)). slice_get ps p) work.kept.processes ∙ slice_get-set_same s.kept.processes p work.before (worked work.before work.outcome) work.kept.there in
      subst (holds p) (worked-component work.before work.outcome) (each p (worked work.before work.outcome) here)

  work-replaced : (s : State K) (p : ℕ) (s' : State K) → Work rules s p s' → OfEach holds s' → Work rules' (replaced other s) p (replaced other s')
  work-replaced s p s' work each =
      let x = work.before in
      record {
        before = with_component x (other p x.component);
        outcome = outcome_as (other p) work.outcome;
        kept = record {
          answer = work.kept.answer;
          there = replaced-there other s.kept.processes p x work.kept.there;
          told = work.kept.told;
          comes = mimics.same p x.component x.held work.kept.answer work.outcome work.kept.comes (holds-after s p s' work each);
          processes = ap (all_replaced other) work.kept.processes ∙ replaced-set other s.kept.processes p (worked x work.outcome) ∙ ap (slice_set (all_replaced other s.kept.processes) p) (sym (worked-same p x work.outcome));
          channels = work.kept.channels;
        };
        past = work.past ∙ ap (past_worked s.past p x.held) (sym (held-same p work.outcome));
      }

  -- what holds of each component after a turn or a work holds before it
  pub turn-back : (s : State K) (p : ℕ) (event : Event) (s' : State K) → Turn s p event s' → OfEach holds s' → OfEach holds s
  turn-back s p event s' turn each = λ q x there. by q x there (same_or_not q p)
    where
      by : (q : ℕ) (x : Process K) → slice_get s.kept.processes q ≡ Some x → (q ≡ p) ⊎ (q ≢ p) → holds q x.component
      by q x there (inl e) =
          let at : slice_get s.kept.processes p ≡ Some x = subst (λ (n : ℕ). slice_get s.kept.processes n ≡ Some x) e there in
          let here : slice_get s'.kept.processes p ≡ Some (process_after turn.kept.before event) =
          ap (λ (ps : List (Process K)). slice_get ps p) turn.kept.processes ∙ slice_get-set_same s.kept.processes p turn.kept.before (process_after turn.kept.before event) turn.kept.there in
          let both : Some turn.kept.before ≡ Some x = sym turn.kept.there ∙ at in
          let same : turn.kept.before ≡ x = cc in
          let after : holds p (process_after turn.kept.before event).component = each p (process_after turn.kept.before event) here in
          subst (λ (n : ℕ). holds n x.component) (sym e) (subst (λ (y : Process K). holds p y.component) same (subst (holds p) (component-same turn.kept.before event) after))
      by q x there (inr ne) =
          each q x (ap (λ (ps : List (Process K)). slice_get ps q) turn.kept.processes ∙ slice_get-set_other s.kept.processes p q (process_after turn.kept.before event) ne ∙ there)

  work-back : (s : State K) (p : ℕ) (s' : State K) → Work rules s p s' → OfEach holds s' → OfEach holds s
  work-back s p s' work each = λ q x there. by q x there (same_or_not q p)
    where
      by : (q : ℕ) (x : Process K) → slice_get s.kept.processes q ≡ Some x → (q ≡ p) ⊎ (q ≢ p) → holds q x.component
      by q x there (inl e) =
          let at : slice_get s.kept.processes p ≡ Some x = subst (λ (n : ℕ). slice_get s.kept.processes n ≡ Some x) e there in
          let both : Some work.before ≡ Some x = sym work.kept.there ∙ at in
          let same : work.before ≡ x = cc in
          let old : holds p work.before.component = mimics.before p work.before.component work.before.held work.kept.answer work.outcome work.kept.comes (holds-after s p s' work each) in
          subst (λ (n : ℕ). holds n x.component) (sym e) (subst (λ (y : Process K). holds p y.component) same old)
      by q x there (inr ne) = each q x (ap (λ (ps : List (Process K)). slice_get ps q) work.kept.processes ∙ slice_get-set_other s.kept.processes p q (worked work.before work.outcome) ne ∙ there)

  thought-replaced : (s : State K) (p : ℕ) → IsThought s.kept p → IsThought (replaced other s).kept p
  thought-replaced s p thought = λ y there. (let from = replaced-from other s.kept.processes p y there in subst (λ (z : Process L). IsThoughtStage z.stage) from.2 (thought from.0 from.1))

  pub settles-replaced : (s : State K) (p : ℕ) (s' : State K) → Settles rules s p s' → OfEach holds s' → Settles rules' (replaced other s) p (replaced other s')
  settles-replaced s p s' (inl thought) each = inl (thought-replaced s p thought.0, ap (replaced other) thought.1)
  settles-replaced s p s' (inr work) each = inr (work-replaced s p s' work each)

  pub settles-back : (s : State K) (p : ℕ) (s' : State K) → Settles rules s p s' → OfEach holds s' → OfEach holds s
  settles-back s p s' (inl thought) each = subst (OfEach holds) thought.1 each
  settles-back s p s' (inr work) each = work-back s p s' work each

  leads-back : (turns seen : List ℕ) (s s' : State K) → LeadsBy rules s turns seen s' → OfEach holds s' → OfEach holds s
  leads-back [] seen s s' leads each = subst (OfEach holds) leads.1 each
  leads-back (p ∷ turns) seen s s' leads each =
      let after = leads-back turns leads.2 leads.1 s' leads.5 each in
      let told = settles-back leads.3.0 p leads.1 leads.3.2 after in
      turn-back s p leads.0 leads.3.0 leads.3.1 told

  leads-replaced : (turns seen : List ℕ) (s s' : State K) → LeadsBy rules s turns seen s' → OfEach holds s' → LeadsBy rules' (replaced other s) turns seen (replaced other s')
  leads-replaced [] seen s s' leads each = (leads.0, ap (replaced other) leads.1)
  leads-replaced (p ∷ turns) seen s s' leads each =
      let after = leads-back turns leads.2 leads.1 s' leads.5 each in (
        leads.0,
        replaced other leads.1,
        leads.2,
        (replaced other leads.3.0, turn-replaced s p leads.0 leads.3.0 leads.3.1, settles-replaced leads.3.0 p leads.1 leads.3.2 after),
        leads.4,
        leads-replaced turns leads.2 leads.1 s' leads.5 each,
      )

  -- A journal that leads from one state to another leads so with other components that mimic these.
  pub replaced-leads : (journal : Journal) (s s' : State K) → Leads rules s journal s' → OfEach holds s' → Leads rules' (replaced other s) journal (replaced other s')
  replaced-leads journal s s' leads each = leads-replaced journal.turns journal.seen s s' leads each
