-- That no connection leads back. (This project's own; Morrison's book tells of loops among the causes of deadlocks.)
use Rattle.std.specs.Prelude.{◌≡◌, ℕ, ◌<◌, Some}
use Rattle.std.specs.Prelude.{List}
use Rattle.flow_component.specs.Laws.{Rules}
use Rattle.flow_model.specs.States.{State}
use Rattle.flow_model.specs.Schedules.{Journal, Leads}
use Rattle.flow_model.specs.Plans.{sends_at, receives_at, start_of, StartsWell}
use Rattle.flow_plan.specs.Network.{Network as Plan}
use Rattle.flow_model.specs.Verdicts.{IsFinished}

-- No connection leads back: each leads from a lower to a higher process by some order of them.
pub record LeadsOn (plan : Plan) : Type 0 where
  pub rank : ℕ → ℕ
  pub rises : (p o q i c : ℕ) → sends_at plan p o ≡ Some c → receives_at plan q i ≡ Some c → rank p < rank q

-- Whatever the schedule, where a network has finished no connection of its plan leads back: a process begins to close only once all that feed it have, so those on
-- a circle never do.
abbrev pub FinishedLeadsOn : {K : Type 0} → Rules K → Type 0
FinishedLeadsOn {K} rules =
    (plan : Plan) (components : List K) (journal : Journal) (s : State K) → StartsWell rules plan components → Leads rules (start_of plan components) journal s → IsFinished s → LeadsOn plan
