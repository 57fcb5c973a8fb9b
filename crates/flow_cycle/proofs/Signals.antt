-- A process that is over left its automatic input dry, along every schedule.
use Rattle.std.proofs.Common.{◌≡◌, ◌⊎◌, ℕ, ◌+◌, List, ◌∷◌, [], Some, sym, ap, ◌∙◌, subst, ◌==◌, inl, inr, slice_get, slice_set}
use Rattle.flow_component.specs.Laws.{Rules, Lawful}
use Rattle.flow_plan.specs.Network.{Network as Plan}
use Rattle.flow_model.specs.States.{Process, Channel, State}
use Rattle.flow_model.specs.Events.{Event}
use Rattle.flow_model.specs.Turns.{process_after, Turn}
use Rattle.flow_model.specs.Works.{worked, Work}
use Rattle.flow_model.specs.Schedules.{Settles, LeadsBy, Journal, Leads}
use Rattle.flow_model.specs.Plans.{start_of}
use Rattle.flow_model.specs.Valid.{Valid, SendersOpen}
use Rattle.flow_model.proofs.Order.{signal-after}
use Rattle.flow_model.proofs.Rising.{found-set}
use Rattle.flow_model.proofs.Start.{start-process}
use Rattle.flow_model.proofs.Schedules.{Valid-turn, Valid-settles}
use Rattle.flow_model.proofs.Exhausting.{IsDry, finishes-signal, signal-dry, dry-after}
use Rattle.flow_model.specs.Stages.{HasBegunToClose}
use Rattle.flow_model.proofs.Stages.{begun-before, begun-worked}

-- Each process that is over left its automatic input dry.
abbrev pub SignalsOver : {K : Type 0} → State K → Type 0
SignalsOver {K} s = (p c : ℕ) (x : Process K) → slice_get s.kept.processes p ≡ Some x → HasBegunToClose x.stage → x.signal ≡ Some c → IsDry s.kept.channels c

over-turn : {K : Type 0} (s : State K) (p : ℕ) (e : Event) (s' : State K) → Turn s p e s' → SendersOpen s.kept → SignalsOver s → SignalsOver s'
over-turn {K} s p e s' turn senders old q c z is over at =
    let x = turn.kept.before in
    let is' : slice_get (slice_set s.kept.processes p (process_after x e)) q ≡ Some z = ap (λ (ps : List (Process K)). slice_get ps q) (sym turn.kept.processes) ∙ is in
    let was : IsDry s.kept.channels c = elim (found-set s.kept.processes p x (process_after x e) turn.kept.there q z is') as (λ _. IsDry s.kept.channels c) [
      | inl same ↦ (let signal : x.signal ≡ Some c = sym (signal-after x e) ∙ ap (λ (y : Process K). y.signal) same.1 ∙ at in
          elim (begun-before s.kept.channels x turn.kept.level e turn.kept.happens (subst (λ (y : Process K). HasBegunToClose y.stage) (sym same.1) over)) as (λ _. IsDry s.kept.channels c) [
            | inl before ↦ old p c x turn.kept.there before signal
            | inr finishes ↦ signal-dry s.kept.channels x.signal (finishes-signal s.kept.channels x turn.kept.level (turn.kept.happens ∙ ap Some finishes)) c signal
          ])
      | inr other ↦ old q c z other.1 over at
    ] in
    subst (λ (cs : List Channel). IsDry cs c) (sym turn.kept.channels) (dry-after s.kept p x turn.kept.level turn.kept.there senders e turn.kept.happens c was)

over-work : {K : Type 0} (rules : Rules K) (s : State K) (p : ℕ) (s' : State K) → Work rules s p s' → SignalsOver s → SignalsOver s'
over-work {K} rules s p s' work old q c z is over at =
    let x = work.before in
    let is' : slice_get (slice_set s.kept.processes p (worked x work.outcome)) q ≡ Some z = ap (λ (ps : List (Process K)). slice_get ps q) (sym work.kept.processes) ∙ is in
    let was : IsDry s.kept.channels c = elim (found-set s.kept.processes p x (worked x work.outcome) work.kept.there q z is') as (λ _. IsDry s.kept.channels c) [
      | inl same ↦ absurd (begun-worked x work.outcome (subst (λ (y : Process K). HasBegunToClose y.stage) (sym same.1) over))
      | inr other ↦ old q c z other.1 over at
    ] in
    subst (λ (cs : List Channel). IsDry cs c) (sym work.kept.channels) was

module _ {K : Type 0} (rules : Rules K) (lawful : Lawful rules) where
  over-settles : (s : State K) (p : ℕ) (s' : State K) → Settles rules s p s' → SignalsOver s → SignalsOver s'
  over-settles s p s' (inl none) old = subst SignalsOver (sym none.1) old
  over-settles s p s' (inr work) old = over-work rules s p s' work old

  over-leads_by : (s : State K) (turns seen : List ℕ) (s' : State K) → Valid rules s → SignalsOver s → LeadsBy rules s turns seen s' → SignalsOver s'
  over-leads_by s [] seen s' valid old leads = subst SignalsOver (sym leads.1) old
  over-leads_by s (p ∷ turns) seen s' valid old leads =
      let whole = leads.3 in
      let mid = Valid-turn rules s p leads.0 whole.0 whole.1 valid in
      over-leads_by leads.1 turns leads.2 s' (Valid-settles rules lawful whole.0 p leads.1 whole.2 mid)
      (over-settles whole.0 p leads.1 whole.2 (over-turn s p leads.0 whole.0 whole.1 valid.senders old)) leads.5

  -- so it is after every schedule from a start
  pub signals-over : (plan : Plan) (components : List K) → Valid rules (start_of plan components) → (journal : Journal) (s : State K) → Leads rules (start_of plan components) journal s → SignalsOver s
  signals-over plan components valid journal s leads = over-leads_by (start_of plan components) journal.turns journal.seen s valid start leads
    where
      start : SignalsOver (start_of plan components)
      start p c x there over at = absurd (let first = start-process plan components p x there in subst HasBegunToClose (ap (λ (z : Process K). z.stage) first.is) over)
