-- A body that thinks still agrees with what the machine has, and has the same connections; so it has after a turn.
use Rattle.std.proofs.Common.{◌≡◌, ℕ, List, Option, slice_get, ap, sym, subst, ◌∙◌, ◌⊎◌, inl, inr}
use Rattle.std.specs.Prelude.{option_and_then}
use Rattle.flow_component.specs.Laws.{Rules, held_after}
use Rattle.flow_component.specs.Resumes.{drops_between, dropped_count}
use Rattle.flow_model.specs.States.{Input, Process}
use Rattle.flow_model.specs.Works.{worked}
use Rattle.flow_model.specs.Stages.{IsThoughtStage}
use Rattle.flow_model.specs.Events.{Event}
use Rattle.flow_model.proofs.Stages.{thought-worked}
use Rattle.flow_model.proofs.Order.{inputs-after, outputs-after, signal-after, inputs-worked, outputs-worked, signal-worked}
use Rattle.flow_machine.specs.Values.{BodyValue}
use Rattle.flow_machine.specs.Thoughts.{Thinks, SameBody, WorkedBody, KeepsTurns}
use Rattle.flow_machine.specs.declared.answers.Thought.{Thought}
use Rattle.flow_machine.specs.Nets.{BodyTurn}
use Rattle.flow_machine.proofs.FitLemmas.{thinks-step}
use Rattle.flow_machine.proofs.Thinking.{keeps-then}
use Rattle.flow_floor.specs.Law.{Rests}
use Rattle.flow_floor.specs.Wired.{IsWiredIn}

module _ {K : Type 0} (rules : Rules K) where
  same-worked : (a b c : BodyValue K) → SameBody a b → WorkedBody rules b c → WorkedBody rules a c
  same-worked a b c same work = record {
    answer = work.answer;
    outcome = work.outcome;
    told = sym (ap (λ (x : Process K). x.stage) same.process) ∙ work.told;
    comes = subst (λ (x : Process K). rules.next x.component x.held work.answer work.outcome) same.process work.comes;
    process = work.process ∙ ap (λ (x : Process K). worked x work.outcome) same.process;
    dropped = work.dropped ∙ (λ i. dropped_count (same.dropped i) (drops_between (same.process i).held (held_after work.outcome)));
  }

  worked-same : (a b c : BodyValue K) → WorkedBody rules a b → SameBody b c → WorkedBody rules a c
  worked-same a b c work same = record { answer = work.answer; outcome = work.outcome; told = work.told; comes = work.comes; process = same.process ∙ work.process; dropped = same.dropped ∙ work.dropped }

  -- a thought of a body that rests
  pub rests-think : (b h h' : BodyValue K) (t : Thought) → Rests rules b h → Thinks rules h t h' → KeepsTurns h h' → Rests rules b h'
  rests-think b h h' t rests thinks keeps = (by rests.0 (thinks-step rules h t h' thinks), keeps-then b h h' rests.1 keeps)
    where
      by : SameBody b h ⊎ WorkedBody rules b h → SameBody h h' ⊎ WorkedBody rules h h' → SameBody b h' ⊎ WorkedBody rules b h'
      by (inl same) (inl same') = inl (record { process = same'.process ∙ same.process; dropped = same'.dropped ∙ same.dropped })
      by (inl same) (inr work) = inr (same-worked b h h' same work)
      by (inr work) (inl same) = inr (worked-same b h h' work same)
      by (inr work) (inr again) =
          let thought : IsThoughtStage h.process.stage = subst IsThoughtStage (sym (ap (λ (x : Process K). x.stage) work.process)) (thought-worked b.process work.outcome) in
          absurd (subst IsThoughtStage again.told thought)

-- A body with the ports of another has its connections.
wired-as : {K : Type 0} (m : ℕ) (h h' : BodyValue K) → h'.process.inputs ≡ h.process.inputs → h'.process.outputs ≡ h.process.outputs → h'.process.signal ≡ h.process.signal → IsWiredIn m h → IsWiredIn m h'
wired-as m h h' inputs outputs signal wired = record {
  inputs = λ i c is. wired.inputs i c (ap (λ (xs : List Input). slice_get xs i) (sym inputs) ∙ is);
  outputs = λ o c is. wired.outputs o c (ap (λ (xs : List (Option ℕ)). option_and_then (λ (y : Option ℕ). y) (slice_get xs o)) (sym outputs) ∙ is);
  signal = λ c is. wired.signal c (sym signal ∙ is);
}

-- a held body's connections stay where it thinks, and where it has a turn
pub wired-think : {K : Type 0} (rules : Rules K) (m : ℕ) (h h' : BodyValue K) (t : Thought) → Thinks rules h t h' → IsWiredIn m h → IsWiredIn m h'
wired-think {K} rules m h h' t thinks wired = by (thinks-step rules h t h' thinks)
  where
    by : SameBody h h' ⊎ WorkedBody rules h h' → IsWiredIn m h'
    by (inl same) = wired-as m h h' (ap (λ (x : Process K). x.inputs) same.process) (ap (λ (x : Process K). x.outputs) same.process) (ap (λ (x : Process K). x.signal) same.process) wired
    by (inr work) = wired-as m h h' (ap (λ (x : Process K). x.inputs) work.process ∙ inputs-worked h.process work.outcome) (ap (λ (x : Process K). x.outputs) work.process ∙ outputs-worked h.process work.outcome)
        (ap (λ (x : Process K). x.signal) work.process ∙ signal-worked h.process work.outcome) wired

-- A turn leaves a body with only connections of the net.
pub wired-turn : {K : Type 0} (m : ℕ) (h h' : BodyValue K) (e : Event) (r : ℕ) → BodyTurn h e r h' → IsWiredIn m h → IsWiredIn m h'
wired-turn {K} m h h' e r turn wired =
    wired-as m h h' (ap (λ (x : Process K). x.inputs) turn.process ∙ inputs-after h.process e) (ap (λ (x : Process K). x.outputs) turn.process ∙ outputs-after h.process e) (ap (λ (x : Process K). x.signal) turn.process ∙ signal-after h.process e) wired
