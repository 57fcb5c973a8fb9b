-- A thought is a work, if one was to come, and the room of the next turn.
use Rattle.std.proofs.Common.{◌∙◌, inl, inr}
use Rattle.flow_component.specs.Laws.{Rules}
use Rattle.flow_model.specs.Stages.{IsThoughtStage}
use Rattle.flow_machine.specs.Values.{BodyValue}
use Rattle.flow_machine.specs.declared.answers.Thought.{Thought}
use Rattle.flow_machine.specs.declared.answers.Thought.TheVariants as thoughts
use Rattle.flow_machine.specs.Thoughts.{WorkedBody, SameBody, Thinks, Prepares, KeepsTurns}

worked-same : {K : Type 0} (rules : Rules K) (old mid new : BodyValue K) → WorkedBody rules old mid → SameBody mid new → WorkedBody rules old new
worked-same rules old mid new work same = record {
  answer = work.answer;
  outcome = work.outcome;
  told = work.told;
  comes = work.comes;
  process = same.process ∙ work.process;
  dropped = same.dropped ∙ work.dropped;
}

-- A body that did its work and then took its room has thought.
pub thinks-worked : {K : Type 0} (rules : Rules K) (old mid : BodyValue K) (t : Thought) (new : BodyValue K) → WorkedBody rules old mid → Prepares mid t new → Thinks rules old t new
thinks-worked rules old mid thoughts.Wishing new work prepared = (inr (worked-same rules old mid new work prepared.0), prepared.1, prepared.2)
thinks-worked rules old mid (thoughts.Failed cause) new work prepared = (inr (worked-same rules old mid new work prepared.0), prepared.1, prepared.2)
thinks-worked rules old mid thoughts.NoMemory new work prepared = (inr (worked-same rules old mid new work prepared.0), prepared.1, prepared.2)

pub thinks-thought : {K : Type 0} (rules : Rules K) (old : BodyValue K) (t : Thought) (new : BodyValue K) → IsThoughtStage old.process.stage → Prepares old t new → Thinks rules old t new
thinks-thought rules old thoughts.Wishing new thought prepared = (inl (thought, prepared.0), prepared.1, prepared.2)
thinks-thought rules old (thoughts.Failed cause) new thought prepared = (inl (thought, prepared.0), prepared.1, prepared.2)
thinks-thought rules old thoughts.NoMemory new thought prepared = (inl prepared.0, prepared.1, prepared.2)

-- What keeps the turns keeps them behind what keeps them.
pub keeps-then : {K : Type 0} (a b c : BodyValue K) → KeepsTurns a b → KeepsTurns b c → KeepsTurns a c
keeps-then a b c first second = record { stamps = second.stamps ∙ first.stamps; levels = second.levels ∙ first.levels; leaving = second.leaving ∙ first.leaving }
