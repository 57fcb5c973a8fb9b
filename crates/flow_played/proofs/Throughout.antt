-- What a component keeps in each of its works holds of all components throughout a schedule.
use Rattle.std.proofs.Common.{◌≡◌, ◌≢◌, ◌⊎◌, ℕ, List, [], ◌∷◌, Some, ap, sym, subst, ◌∙◌, refl, inl, inr, slice_get, slice_set}
use Rattle.flow_packet.specs.Held.{Held}
use Rattle.flow_component.specs.declared.Answer.{Answer}
use Rattle.flow_component.specs.Laws.{Rules, Outcome, Wishes, Fails, component_after}
use Rattle.flow_model.specs.States.{Process, State}
use Rattle.flow_model.specs.Events.{Event}
use Rattle.flow_model.specs.Turns.{Turn, process_after}
use Rattle.flow_model.specs.Works.{Work, worked}
use Rattle.flow_model.specs.Schedules.{Settles, LeadsBy}
use Rattle.flow_model.specs.Replaced.{OfEach}
use Rattle.flow_model.proofs.Lists.{slice_get-set_same, slice_get-set_other, same_or_not}
use Rattle.flow_model.proofs.Replacing.{component-same}

-- what held of a component holds of it after each outcome
abbrev pub Stays : {K : Type 0} → Rules K → (ℕ → K → Type 0) → Type 0
Stays {K} rules holds = (p : ℕ) (component : K) (held : Held) (answer : Answer) (outcome : Outcome K) → rules.next component held answer outcome → holds p component → holds p (component_after outcome)

-- one process changed, and this holds of its component
set-throughout : {K : Type 0} (holds : ℕ → K → Type 0) (xs : List (Process K)) (p : ℕ) (x y : Process K) → slice_get xs p ≡ Some x → holds p y.component
    → ((q : ℕ) (z : Process K) → slice_get xs q ≡ Some z → holds q z.component) → (q : ℕ) (z : Process K) → slice_get (slice_set xs p y) q ≡ Some z → holds q z.component
set-throughout {K} holds xs p x y there now each q z is = by (same_or_not q p)
  where
    by : (q ≡ p) ⊎ (q ≢ p) → holds q z.component
    by (inl e) =
        let at : slice_get (slice_set xs p y) p ≡ Some z = subst (λ (n : ℕ). slice_get (slice_set xs p y) n ≡ Some z) e is in
        let both : Some y ≡ Some z = sym (slice_get-set_same xs p x y there) ∙ at in
        let same : y ≡ z = cc in
        subst (λ (n : ℕ). holds n z.component) (sym e) (subst (λ (w : Process K). holds p w.component) same now)
    by (inr ne) = each q z (sym (slice_get-set_other xs p q y ne) ∙ is)

worked-component : {K : Type 0} (x : Process K) (outcome : Outcome K) → (worked x outcome).component ≡ component_after outcome
worked-component x (Wishes component held wish) = refl
worked-component x (Fails component held cause) = refl

module _ {K : Type 0} (rules : Rules K) (holds : ℕ → K → Type 0) (stays : Stays rules holds) where
  -- what is there before is there with other processes in their places
  moved : (xs ys : List (Process K)) → ys ≡ xs → ((q : ℕ) (z : Process K) → slice_get xs q ≡ Some z → holds q z.component) → (q : ℕ) (z : Process K) → slice_get ys q ≡ Some z → holds q z.component
  moved xs ys same each q z is = each q z (ap (λ (zs : List (Process K)). slice_get zs q) (sym same) ∙ is)

  turn-throughout : (s : State K) (p : ℕ) (event : Event) (s' : State K) → Turn s p event s' → OfEach holds s → OfEach holds s'
  turn-throughout s p event s' turn each =
      let x = turn.kept.before in
      let now : holds p (process_after x event).component = subst (holds p) (sym (component-same x event)) (each p x turn.kept.there) in
      moved (slice_set s.kept.processes p (process_after x event)) s'.kept.processes turn.kept.processes (set-throughout holds s.kept.processes p x (process_after x event) turn.kept.there now each)

  work-throughout : (s : State K) (p : ℕ) (s' : State K) → Work rules s p s' → OfEach holds s → OfEach holds s'
  work-throughout s p s' work each =
      let x = work.before in
      let after = stays p x.component x.held work.kept.answer work.outcome work.kept.comes (each p x work.kept.there) in
      let now : holds p (worked x work.outcome).component = subst (holds p) (sym (worked-component x work.outcome)) after in
      moved (slice_set s.kept.processes p (worked x work.outcome)) s'.kept.processes work.kept.processes (set-throughout holds s.kept.processes p x (worked x work.outcome) work.kept.there now each)

  settles-throughout : (s : State K) (p : ℕ) (s' : State K) → Settles rules s p s' → OfEach holds s → OfEach holds s'
  settles-throughout s p s' (inl thought) each = subst (OfEach holds) (sym thought.1) each
  settles-throughout s p s' (inr work) each = work-throughout s p s' work each

  -- What holds of each component where a schedule begins holds where it leads.
  pub leads-throughout : (s : State K) (turns seen : List ℕ) (s' : State K) → LeadsBy rules s turns seen s' → OfEach holds s → OfEach holds s'
  leads-throughout s [] seen s' is each = subst (OfEach holds) (sym is.1) each
  leads-throughout s (p ∷ turns) seen s' leads each =
      let whole = leads.3 in
      leads-throughout leads.1 turns leads.2 s' leads.5 (settles-throughout whole.0 p leads.1 whole.2 (turn-throughout s p leads.0 whole.0 whole.1 each))
