-- Between two turns of a burst the gate is passed: a turn of it leaves a work, or the process fails by it, and has no further turn.
use Rattle.std.proofs.Common.{◌≡◌, ℕ, ◌+◌, ◌<◌, ◌≤◌, ◌∙◌, ◌⊎◌, inl, inr, Bool, true, false, nat_lt, arith, ap, refl, sym, subst}
use Rattle.std.proofs.lemmas.Bool.Decides.{nat_tests}
use Rattle.flow_packet.specs.Tree.{Tree}
use Rattle.flow_component.specs.Laws.{Rules, Outcome, Wishes, Fails}
use Rattle.flow_model.specs.declared.Stage.{Stage}
use Rattle.flow_model.specs.declared.Stage.TheVariants as stages
use Rattle.flow_component.specs.declared.Answer.TheVariants as answers
use Rattle.flow_component.specs.declared.Fail.{Fail}
use Rattle.flow_model.specs.Events.{Gets}
use Rattle.flow_model.specs.Stages.{HasNotFailed, IsThoughtStage}
use Rattle.flow_model.specs.States.{Process}
use Rattle.flow_model.specs.Turns.{stage_after}
use Rattle.flow_model.specs.Works.{worked}
use Rattle.flow_model.proofs.Stages.{limited-elim}
use Rattle.flow_machine.specs.Effects.{TakesTurn, port_at}
use Rattle.flow_machine.specs.Thoughts.{PassesFirst, SameBody, Thinks, WorkedBody}
use Rattle.flow_machine.specs.Values.{BodyValue}
use Rattle.flow_machine.specs.declared.answers.Thought.{Thought}
use Rattle.flow_machine.specs.declared.answers.Thought.TheVariants as thoughts
use Rattle.flow_machine.specs.declared.answers.Effect.TheVariants as effects
use Rattle.flow_machine.proofs.FitLemmas.{thinks-step}
use Rattle.flow_floor.specs.Bursting.{IsTurned, OwesOrFailed}
use Rattle.flow_floor.specs.declared.floor.Burst.{Burst}
use Rattle.flow_floor.specs.declared.floor.Burst.TheVariants as burst
use Rattle.flow_floor.specs.Bursts.{IsOneAtMost, PassesBetween, PassesInBurst}
use Rattle.flow_floor.specs.Law.{Rests}

-- Before the first turn there is nothing to be passed; and what was passed for more turns was passed for fewer.
pub between-none : (has_passed : ℕ → ℕ → Type 0) (turns count : ℕ) → count ≤ 1 → PassesBetween has_passed turns count
between-none has_passed turns count none k least few = absurd (omega (arith, none, least, few))

pub between-fewer : (has_passed : ℕ → ℕ → Type 0) (turns count : ℕ) → PassesBetween has_passed turns (count + 1) → PassesBetween has_passed turns count
between-fewer has_passed turns count passed k least few = passed k least (omega (arith, few))

-- One turn more, and the gate before the next one.
pub between-more : (has_passed : ℕ → ℕ → Type 0) (turns count now : ℕ) → now ≡ turns + count → ((maker : ℕ) × has_passed maker (now + 1)) → PassesBetween has_passed turns (count + 1) → PassesBetween has_passed turns (count + 1 + 1)
between-more has_passed turns count now at passed before k least few = by (nat_lt k (count + 1)) refl
  where
    by : (b : Bool) → nat_lt k (count + 1) ≡ b → (maker : ℕ) × has_passed maker (turns + k)
    by true less = before k least (grind (arith, nat_tests))
    by false less = let same : now + 1 ≡ turns + k = grind (arith, nat_tests) in subst (λ (n : ℕ). (maker : ℕ) × has_passed maker n) same passed

module _ {K : Type 0} where
  -- A turn that receives a packet leaves a work, but for the limit of turns.
  pub got-turned : (old new : BodyValue K) (packet : Tree) (stamp : ℕ) → TakesTurn old (effects.Got packet) stamp new → IsTurned old new
  got-turned old new packet stamp takes = record {
    turns = ap (λ (x : Process K). x.turns) takes.process;
    owes = subst (λ (x : Process K). OwesOrFailed x.stage) (sym takes.process) (limited-elim OwesOrFailed (old.process.turns + 1) (stage_after old.process (Gets (port_at old.process.stage) 0 packet)) tt tt);
  }

  -- So does one that sends.
  pub sent-turned : (old mid new : BodyValue K) (stamp : ℕ) → mid.process.turns ≡ old.process.turns → TakesTurn mid effects.Sent stamp new → IsTurned old new
  sent-turned old mid new stamp same takes = record {
    turns = ap (λ (x : Process K). x.turns) takes.process ∙ ap (λ (n : ℕ). n + 1) same;
    owes = subst (λ (x : Process K). OwesOrFailed x.stage) (sym takes.process) (limited-elim OwesOrFailed (mid.process.turns + 1) (stages.Told answers.Sent) tt tt);
  }

  turns-worked : (x : Process K) (outcome : Outcome K) → (worked x outcome).turns ≡ x.turns
  turns-worked x (Wishes component held wish) = refl
  turns-worked x (Fails component held cause) = refl

  turns-step : (rules : Rules K) (old new : BodyValue K) → SameBody old new ⊎ WorkedBody rules old new → new.process.turns ≡ old.process.turns
  turns-step rules old new (inl same) = ap (λ (x : Process K). x.turns) same.process
  turns-step rules old new (inr work) = ap (λ (x : Process K). x.turns) work.process ∙ turns-worked old.process work.outcome

  -- A thought makes no turn.
  pub turns-rest : (rules : Rules K) (old new : BodyValue K) → Rests rules old new → new.process.turns ≡ old.process.turns
  turns-rest rules old new rests = turns-step rules old new rests.0

  pub turns-thought : (rules : Rules K) (old new : BodyValue K) (t : Thought) → Thinks rules old t new → new.process.turns ≡ old.process.turns
  turns-thought rules old new t thinks = turns-step rules old new (thinks-step rules old t new thinks)

  -- A body that comes to a wish, where a work was to come or it had failed, passed the gate.
  pub wishing-gated : (rules : Rules K) (has_passed : ℕ → ℕ → Type 0) (old new : BodyValue K) → Thinks rules old thoughts.Wishing new → PassesFirst has_passed old → OwesOrFailed old.process.stage → (maker : ℕ) × has_passed maker old.process.turns
  wishing-gated rules has_passed old new thinks passes owes = by old.process.stage refl owes
    where
      never : (cause : Fail) → old.process.stage ≡ stages.Failed cause → (IsThoughtStage old.process.stage × SameBody old new) ⊎ WorkedBody rules old new → ⊥
      never cause is (inl same) = subst HasNotFailed (ap (λ (x : Process K). x.stage) same.1.process ∙ is) thinks.2
      never cause is (inr work) = let told : stages.Failed cause ≡ stages.Told work.answer = sym is ∙ work.told in cc

      by : (stage : Stage) → old.process.stage ≡ stage → OwesOrFailed stage → (maker : ℕ) × has_passed maker old.process.turns
      by (stages.Told answer) is owes = (old.process.held.maker, passes answer is)
      by (stages.Failed cause) is owes = absurd (never cause is thinks.0)
      by stages.Idle is owes = absurd owes
      by stages.Ended is owes = absurd owes
      by (stages.Wishing wish) is owes = absurd owes
      by (stages.Closing i) is owes = absurd owes

  -- One turn has none between.
  pub between-one : (has_passed : ℕ → ℕ → Type 0) (b : BodyValue K) (made : Burst) → IsOneAtMost made → PassesInBurst has_passed b made
  between-one has_passed b (burst.Made first count) one = between-none has_passed b.process.turns count (omega (arith, one))
  between-one has_passed b (burst.Busy c word) one = tt
  between-one has_passed b (burst.Blocked block word) one = tt
  between-one has_passed b (burst.Over over) one = tt
