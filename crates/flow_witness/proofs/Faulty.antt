-- A component that fails at its start ends its network as failed.
use Rattle.flow_limits.specs.declared.TheConstants.{TEXT_LIMIT}
use Rattle.std.proofs.Common.{◌≡◌, ◌<◌, ◌≤◌, ◌⊎◌, Option, length, [], ◌∷◌, refl, arith, Some, None, slice_get, false, true}
use Rattle.std.specs.Prelude.{codes}
use Rattle.flow_component.specs.declared.Answer.{Answer}
use Rattle.flow_component.specs.declared.Fail.TheVariants as fails
use Rattle.flow_plan.specs.declared.plan.Process.{Process as Entry}
use Rattle.flow_plan.specs.Valid.{IsWired, HasConnection, HasText}
use Rattle.flow_model.specs.declared.Stage.TheVariants as stages
use Rattle.flow_model.specs.States.{Process, State}
use Rattle.flow_model.specs.Events.{event_of}
use Rattle.flow_model.specs.Verdicts.{IsFailed}
use Rattle.flow_model.specs.Plans.{start_of, process_at_start, FitsProcess, StartsWell}
use Rattle.flow_model.proofs.Replay.{run, run-leads}
use Rattle.flow_witness.specs.Ends.{Faulty, faulty_next, faulty_rules, alone, alone_components, IsFailure}
use Rattle.flow_witness.proofs.Wired.{at_one, no_initial, none_there}

abbrev q0 : Entry
q0 = record { name = codes "A"; kind = codes "Faulty"; options = []; initials = []; inputs = 0; outputs = 0 }

wired : IsWired alone
wired = record {
  few_processes = omega arith;
  few_connections = omega arith;
  receivers = λ c x h. none_there c x h;
  one_receiver = λ c d x y h. none_there c x h;
  senders = λ c k x s h. none_there c x h;
  one_sender = λ c d k l x y s h. none_there c x h;
  each_input = λ p i input. at_one (λ k q. i < q.inputs → HasConnection alone p i ⊎ HasText alone p i) q0 (λ below. absurd (omega arith)) p input.0 input.1 input.2;
  not_both = λ p i connection has. none_there connection.number connection.connection connection.here;
  short = λ p k i q text h. at_one (λ p q. slice_get q.initials k ≡ Some (i, text) → length text ≤ TEXT_LIMIT) q0 (no_initial k (i, text)) p q h;
  capacities = λ c x h. none_there c x h;
  few_senders = λ c x h. none_there c x h;
}

abbrev x0 : Process Faulty
x0 = process_at_start alone 0 q0 tt

fits0 : FitsProcess faulty_rules x0.component x0
fits0 = record { inputs = refl; outputs = refl; used = λ port uses. absurd (let bad : false ≡ true = uses in cc); can_start = λ held empty. tt }

starts : StartsWell faulty_rules alone alone_components
starts = record { wired = wired; one_each = refl; fit = λ p x there. at_one (λ k y. FitsProcess faulty_rules y.component y) x0 fits0 p x there }

abbrev or_start : Option (State Faulty) → State Faulty
or_start (Some s) = s
or_start None = start_of alone alone_components

abbrev s1 : State Faulty
s1 = or_start (run faulty_next (start_of alone alone_components) (0 ∷ []) [])

abbrev y0 : Process Faulty
y0 = record x0 { stage = stages.Failed fails.HandsLimit; turns = 1 }

failed : IsFailed s1
failed = (
  record {
    thought = λ p x there. at_one (λ k y. (answer : Answer) → y.stage ≡ stages.Told answer → ⊥) y0 (λ answer h. cc) p x there;
    still = λ p x n there. at_one (λ k y. event_of s1.kept.channels y n ≡ None) y0 refl p x there;
  },
  (0, y0, fails.HandsLimit, refl, refl),
)

-- The run ends with a failed process.
pub failure : IsFailure
failure = record { starts = starts; last = s1; leads = run-leads faulty_rules faulty_next (λ _ _ _. refl) (start_of alone alone_components) (0 ∷ []) [] s1 refl; failed = failed }
