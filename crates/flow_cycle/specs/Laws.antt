-- What is promised of each deadlock that a schedule reaches from a start, whatever the components choose.
use Rattle.std.specs.Prelude.{◌≡◌, ℕ, List, Some, IsSome}
use Rattle.flow_component.specs.Laws.{Rules}
use Rattle.flow_plan.specs.Network.{Network as Plan}
use Rattle.flow_model.specs.States.{State}
use Rattle.flow_model.specs.Schedules.{Journal, Leads}
use Rattle.flow_model.specs.Verdicts.{block, IsDeadlock}
use Rattle.flow_model.specs.Plans.{start_of, StartsWell}
use Rattle.flow_cycle.specs.declared.Waits.{Waits}
use Rattle.flow_cycle.specs.Waiting.{waits_at, IsWaitingCycle}

-- Each process that is blocked waits for one, and that one is blocked too.
abbrev pub BlockedOnBlocked : {K : Type 0} → Plan → State K → Type 0
BlockedOnBlocked plan s = (p : ℕ) → IsSome (block s.kept p) → (w : Waits) × (waits_at plan s.kept p ≡ Some w) × IsSome (block s.kept w.to)

-- There is a cycle of those that wait for one another, and it is the only one to which the way from the lowest blocked process leads.
pub record HasOneWaitingCycle {K : Type 0} (plan : Plan) (s : State K) : Type 0 where
  pub cycle : List Waits
  pub is : IsWaitingCycle plan s.kept cycle
  pub only : (other : List Waits) → IsWaitingCycle plan s.kept other → other ≡ cycle

-- So it is in each deadlock.
abbrev pub DeadlocksWait : {K : Type 0} → Rules K → Type 0
DeadlocksWait {K} rules =
    (plan : Plan) (components : List K) (journal : Journal) (s : State K) → StartsWell rules plan components → Leads rules (start_of plan components) journal s → IsDeadlock s → BlockedOnBlocked plan s × HasOneWaitingCycle plan s
