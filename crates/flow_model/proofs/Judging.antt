-- In each state one verdict holds, and one only.
use Rattle.std.proofs.Common.{◌≡◌, ◌≢◌, ℕ, List, [], ◌∷◌, Option, Some, None, refl, ap, sym, subst, ◌∙◌, zero, suc, ◌⊎◌, inl, inr, IsSome, slice_get}
use Rattle.flow_component.specs.declared.Answer.{Answer}
use Rattle.flow_component.specs.declared.Fail.{Fail}
use Rattle.flow_component.specs.Laws.{Rules}
use Rattle.flow_model.specs.declared.Stage.{Stage}
use Rattle.flow_model.specs.declared.Stage.TheVariants as stages
use Rattle.flow_model.specs.declared.Block.{Block}
use Rattle.flow_model.specs.States.{Process, Channel, State}
use Rattle.flow_model.specs.Events.{Event, looks, event_from, event_of, stage_event}
use Rattle.flow_model.specs.Verdicts.{exact_level, block_of, Quiet, AllEnded, SomeFailed, OneVerdict}
use Rattle.flow_model.specs.Fit.{Fit}
use Rattle.flow_model.specs.Stages.{IsOverOrOwes}
use Rattle.flow_model.proofs.Blocks.{turn-or-block, block-no_turn}

-- of a list whose elements can be told apart by a fact, all have it or some one has it not
decide : {A : Type 0} (P : A → Type 0) (xs : List A) → ((i : ℕ) (x : A) → slice_get xs i ≡ Some x → P x ⊎ (P x → ⊥)) → ((i : ℕ) (x : A) → slice_get xs i ≡ Some x → P x) ⊎ ((i : ℕ) × (x : A) × (slice_get xs i ≡ Some x) × (P x → ⊥))
decide P [] each = inl (λ i x is. absurd (cc))
decide {A} P (y ∷ ys) each = elim (each 0 y refl) [
  | inr lacks ↦ inr (0, y, refl, lacks)
  | inl here ↦ elim (decide P ys (λ i x is. each (suc i) x is)) [
    | inr found ↦ inr (suc found.0, found.1, found.2, found.3)
    | inl all ↦ inl (both here all)
  ]
]
  where
    both : P y → ((i : ℕ) (x : A) → slice_get ys i ≡ Some x → P x) → (i : ℕ) (x : A) → slice_get (y ∷ ys) i ≡ Some x → P x
    both here all zero x is = let same : y ≡ x = cc in subst P same here
    both here all (suc i) x is = all i x is

-- A process that owes no work and has no turn.
pub record IsStill {K : Type 0} (channels : List Channel) (x : Process K) : Type 0 where
  pub thought : (answer : Answer) → x.stage ≢ stages.Told answer
  pub still : (n : ℕ) → event_of channels x n ≡ None

over-still : {K : Type 0} (channels : List Channel) (x : Process K) (stage : Stage) → ((n : ℕ) → stage_event (looks channels) x n stage ≡ None) → ((answer : Answer) → stage ≢ stages.Told answer) → x.stage ≡ stage → IsStill channels x
over-still channels x stage none thought is = record {
  thought = λ answer told. thought answer (sym is ∙ told);
  still = λ n. ap (λ (st : Stage). stage_event (looks channels) x n st) is ∙ none n;
}

-- a process of a state that fits has a turn, or is still
module _ {K : Type 0} (rules : Rules K) (s : State K) (fit : Fit rules s) where
  still-or-on : (p : ℕ) (x : Process K) (stage : Stage) → slice_get s.kept.processes p ≡ Some x → x.stage ≡ stage → (IsOverOrOwes stage → ⊥) → IsStill s.kept.channels x ⊎ (IsStill s.kept.channels x → ⊥)
  still-or-on p x stage there is on = by (event_from (looks s.kept.channels) x (exact_level (looks s.kept.channels) x)) refl
    where
      thought : (st : Stage) → (IsOverOrOwes st → ⊥) → (answer : Answer) → st ≢ stages.Told answer
      thought st on' answer told = on' (subst IsOverOrOwes (sym told) tt)

      blocked : (found : Option Block) → block_of (looks s.kept.channels) x ≡ found → IsSome found → IsStill s.kept.channels x
      blocked None at some = absurd (cc)
      blocked (Some b) at some = record {
        thought = λ answer told. thought stage on answer (sym is ∙ told);
        still = λ n. block-no_turn (looks s.kept.channels) x b n at;
      }

      by : (found : Option Event) → event_from (looks s.kept.channels) x (exact_level (looks s.kept.channels) x) ≡ found → IsStill s.kept.channels x ⊎ (IsStill s.kept.channels x → ⊥)
      by (Some e) at = inr (λ quiet. (let h : Some e ≡ None = sym at ∙ quiet.still (exact_level (looks s.kept.channels) x) in cc))
      by None at =
          let some = turn-or-block s p x there (fit.all_fit p x there).granted fit.valid.senders fit.valid.within (λ over. on (subst IsOverOrOwes is over)) at in
          inl (blocked (block_of (looks s.kept.channels) x) refl some)

  still-or : (p : ℕ) (x : Process K) (stage : Stage) → slice_get s.kept.processes p ≡ Some x → x.stage ≡ stage → IsStill s.kept.channels x ⊎ (IsStill s.kept.channels x → ⊥)
  still-or p x stages.Ended there is = inl (over-still s.kept.channels x stages.Ended (λ n. refl) (λ answer told. cc) is)
  still-or p x (stages.Failed cause) there is = inl (over-still s.kept.channels x (stages.Failed cause) (λ n. refl) (λ answer told. cc) is)
  still-or p x (stages.Told answer) there is = inr (λ quiet. quiet.thought answer is)
  still-or p x stage there is = still-or-on p x stage there is (λ lacks. lacks)

  -- it is quiet or it isn't
  quiet-or : Quiet s ⊎ (Quiet s → ⊥)
  quiet-or = elim (decide (IsStill s.kept.channels) s.kept.processes (λ p x there. still-or p x x.stage there refl)) [
    | inl all ↦ inl (record { thought = λ p x there answer. (all p x there).thought answer; still = λ p x n there. (all p x there).still n })
    | inr found ↦ inr (λ quiet. found.3 (record { thought = λ answer. quiet.thought found.0 found.1 found.2 answer; still = λ n. quiet.still found.0 found.1 n found.2 }))
  ]

ended-or : (stage : Stage) → (stage ≡ stages.Ended) ⊎ (stage ≡ stages.Ended → ⊥)
ended-or stages.Ended = inl refl
ended-or stage = inr (λ h. cc)

-- it hasn't failed
abbrev HasNotFailed : Stage → Type 0
HasNotFailed stage = (cause : Fail) → stage ≡ stages.Failed cause → ⊥

failed-or : (stage : Stage) → HasNotFailed stage ⊎ (HasNotFailed stage → ⊥)
failed-or (stages.Failed cause) = inr (λ lacks. lacks cause refl)
failed-or stage = inl (λ cause h. cc)

failed-at : (stage : Stage) → (HasNotFailed stage → ⊥) → (cause : Fail) × (stage ≡ stages.Failed cause)
failed-at (stages.Failed cause) lacks = (cause, refl)
failed-at stage lacks = absurd (lacks (λ cause h. cc))

all-ended-or : {K : Type 0} (s : State K) → AllEnded s ⊎ (AllEnded s → ⊥)
all-ended-or {K} s = elim (decide (λ (x : Process K). x.stage ≡ stages.Ended) s.kept.processes (λ p x there. ended-or x.stage)) [
  | inl all ↦ inl all
  | inr found ↦ inr (λ all. found.3 (all found.0 found.1 found.2))
]

some-failed-or : {K : Type 0} (s : State K) → SomeFailed s ⊎ (SomeFailed s → ⊥)
some-failed-or {K} s = elim (decide (λ (x : Process K). HasNotFailed x.stage) s.kept.processes (λ p x there. failed-or x.stage)) [
  | inl all ↦ inr (λ failed. all failed.0 failed.1 failed.3 failed.2 failed.4)
  | inr found ↦ (let at = failed-at found.1.stage found.3 in inl (found.0, found.1, at.0, found.2, at.1))
]

-- where all have ended the network is quiet
pub ended-quiet : {K : Type 0} (s : State K) → AllEnded s → Quiet s
ended-quiet s all = record {
  thought = λ p x there answer told. (let h : stages.Ended ≡ stages.Told answer = sym (all p x there) ∙ told in cc);
  still = λ p x n there. ap (λ (st : Stage). stage_event (looks s.kept.channels) x n st) (all p x there);
}

-- one verdict holds in a state that fits
pub one-verdict : {K : Type 0} (rules : Rules K) (s : State K) → Fit rules s → OneVerdict s
one-verdict rules s fit = record {
  some = elim (all-ended-or s) [
    | inl all ↦ inl all
    | inr not_all ↦ elim (quiet-or rules s fit) [
      | inr loud ↦ inr (inr (inr loud))
      | inl quiet ↦ elim (some-failed-or s) [
        | inl failed ↦ inr (inl (quiet, failed))
        | inr none ↦ inr (inr (inl (quiet, none, not_all)))
      ]
    ]
  ];
  finished_or_failed = λ all failed. (let h = failed.1 in let e : stages.Ended ≡ stages.Failed h.2 = sym (all h.0 h.1 h.3) ∙ h.4 in cc);
  finished_or_deadlock = λ all deadlock. deadlock.2 all;
  finished_or_running = λ all running. running (ended-quiet s all);
  failed_or_deadlock = λ failed deadlock. deadlock.1 failed.1;
  failed_or_running = λ failed running. running failed.0;
  deadlock_or_running = λ deadlock running. running deadlock.0;
}
