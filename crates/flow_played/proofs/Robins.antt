-- A round robin stands where components are replaced by others that come to the same.
use Rattle.std.proofs.Common.{◌≡◌, ℕ, zero, suc, List, [], ◌∷◌, length, Some, sym, ◌∙◌, ap, subst}
use Rattle.flow_component.specs.Laws.{Rules}
use Rattle.flow_model.specs.States.{Process, State}
use Rattle.flow_model.specs.Events.{Event, Learns}
use Rattle.flow_model.specs.Schedules.{Journal, no_turns}
use Rattle.flow_model.specs.Robin.{IsExact, ExactTurn, TurnsOf, PassBelow, Pass, Passes, RoundRobin}
use Rattle.flow_model.specs.Replaced.{with_component, replaced, OfEach, Mimics}
use Rattle.flow_model.proofs.Replacing.{replaced-there, turn-replaced, settles-replaced, turn-back, settles-back}
use Rattle.flow_played.proofs.Places.{replaced-length, still-replaced}

-- A turn that sees the exact length does so with another component.
pub exact-same : {K L : Type 0} (other : ℕ → K → L) (s : State K) (x : Process K) (c : L) (event : Event) → IsExact s.kept x event → IsExact (replaced other s).kept (with_component x c) event
exact-same other s x c (Learns port level) exact = exact
exact-same other s x c event exact = tt

module _ {K L : Type 0} (rules : Rules K) (rules' : Rules L) (holds : ℕ → K → Type 0) (other : ℕ → K → L) (mimics : Mimics rules rules' holds other) where
  -- what holds of each component after turns holds before them
  exact-back : (s : State K) (p : ℕ) (event : Event) (s' : State K) → ExactTurn rules s p event s' → OfEach holds s' → OfEach holds s
  exact-back s p event s' exact each =
      turn-back rules rules' holds other mimics s p event exact.mid exact.turn (settles-back rules rules' holds other mimics exact.mid p s' exact.settles each)

  -- a whole turn with the other components
  exact-replaced : (s : State K) (p : ℕ) (event : Event) (s' : State K) → ExactTurn rules s p event s' → OfEach holds s' → ExactTurn rules' (replaced other s) p event (replaced other s')
  exact-replaced s p event s' exact each =
      let turn = turn-replaced rules rules' holds other mimics s p event exact.mid exact.turn in
      let x = exact.turn.kept.before in
      let both : Some (with_component x (other p x.component)) ≡ Some turn.kept.before = sym (replaced-there other s.kept.processes p x exact.turn.kept.there) ∙ turn.kept.there in
      let same : with_component x (other p x.component) ≡ turn.kept.before = cc in
      record {
        mid = replaced other exact.mid;
        turn = turn;
        exact = subst (λ (y : Process L). IsExact (replaced other s).kept y event) same (exact-same other s x (other p x.component) event exact.exact);
        settles = settles-replaced rules rules' holds other mimics exact.mid p s' exact.settles each;
      }

  turns-back : (p : ℕ) (s : State K) (turns seen : List ℕ) (s' : State K) → TurnsOf rules p s turns seen s' → OfEach holds s' → OfEach holds s
  turns-back p s [] seen s' t each = subst (OfEach holds) t.1 each
  turns-back p s (q ∷ turns) seen s' t each = exact-back s p t.1.0 t.1.1 t.1.3 (turns-back p t.1.1 turns t.1.2 s' t.1.5 each)

  turns-replaced : (p : ℕ) (s : State K) (turns seen : List ℕ) (s' : State K) → TurnsOf rules p s turns seen s' → OfEach holds s' → TurnsOf rules' p (replaced other s) turns seen (replaced other s')
  turns-replaced p s [] seen s' t each = (t.0, ap (replaced other) t.1)
  turns-replaced p s (q ∷ turns) seen s' t each =
      let after = turns-back p t.1.1 turns t.1.2 s' t.1.5 each in
      (t.0, (t.1.0, replaced other t.1.1, t.1.2, exact-replaced s p t.1.0 t.1.1 t.1.3 after, t.1.4, turns-replaced p t.1.1 turns t.1.2 s' t.1.5 each))

  below-back : (n : ℕ) (s : State K) (journal : Journal) (s' : State K) → PassBelow rules n s journal s' → OfEach holds s' → OfEach holds s
  below-back zero s journal s' pass each = subst (OfEach holds) pass.1 each
  below-back (suc p) s journal s' pass each = below-back p s pass.0 pass.2 pass.4 (turns-back p pass.2 pass.1.turns pass.1.seen s' pass.5.0 each)

  below-replaced : (n : ℕ) (s : State K) (journal : Journal) (s' : State K) → PassBelow rules n s journal s' → OfEach holds s' → PassBelow rules' n (replaced other s) journal (replaced other s')
  below-replaced zero s journal s' pass each = (pass.0, ap (replaced other) pass.1)
  below-replaced (suc p) s journal s' pass each =
      let mid = turns-back p pass.2 pass.1.turns pass.1.seen s' pass.5.0 each in (
        pass.0,
        pass.1,
        replaced other pass.2,
        pass.3,
        below-replaced p s pass.0 pass.2 pass.4 mid,
        (turns-replaced p pass.2 pass.1.turns pass.1.seen s' pass.5.0 each, still-replaced other s' p pass.5.1),
      )

  pass-replaced : (s : State K) (journal : Journal) (s' : State K) → Pass rules s journal s' → OfEach holds s' → Pass rules' (replaced other s) journal (replaced other s')
  pass-replaced s journal s' pass each =
      subst (λ (n : ℕ). PassBelow rules' n (replaced other s) journal (replaced other s')) (sym (replaced-length other s.kept.processes)) (below-replaced (length s.kept.processes) s journal s' pass each)

  passes-back : (s : State K) (passes : List Journal) (s' : State K) → Passes rules s passes s' → OfEach holds s' → OfEach holds s
  passes-back s [] s' go each = subst (OfEach holds) go each
  passes-back s (pass ∷ passes) s' go each = below-back (length s.kept.processes) s pass go.1.0 go.1.1 (passes-back go.1.0 passes s' go.1.2 each)

  passes-replaced : (s : State K) (passes : List Journal) (s' : State K) → Passes rules s passes s' → OfEach holds s' → Passes rules' (replaced other s) passes (replaced other s')
  passes-replaced s [] s' go each = ap (replaced other) go
  passes-replaced s (pass ∷ passes) s' go each =
      (go.0, (replaced other go.1.0, pass-replaced s pass go.1.0 go.1.1 (passes-back go.1.0 passes s' go.1.2 each), passes-replaced go.1.0 passes s' go.1.2 each))

  -- A round robin is one with other components that mimic these.
  pub robin-replaced : (s : State K) (journal : Journal) (s' : State K) → RoundRobin rules s journal s' → OfEach holds s' → RoundRobin rules' (replaced other s) journal (replaced other s')
  robin-replaced s journal s' robin each = record {
    passes = robin.passes;
    whole = robin.whole;
    go = passes-replaced s robin.passes s' robin.go each;
    last = pass-replaced s' no_turns s' robin.last each;
  }
