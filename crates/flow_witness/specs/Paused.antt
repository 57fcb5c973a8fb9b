-- What the report of a paused network tells, where no work is still to come in it.
use Rattle.std.specs.Prelude.{◌≡◌, ℕ, List, Some, slice_get}
use Rattle.flow_component.specs.Laws.{Rules}
use Rattle.flow_plan.specs.Network.{Network as Plan}
use Rattle.flow_model.specs.States.{State}
use Rattle.flow_model.specs.Schedules.{Journal}
use Rattle.flow_model.specs.Stages.{IsThoughtStage}
use Rattle.flow_model.specs.Plans.{StartsWell}
use Rattle.flow_model.specs.Stands.{StandsForOpen}
use Rattle.flow_machine.specs.Values.{BodyValue, NetValue, shown_net}
use Rattle.flow_machine.specs.Starts.{StartsNet}
use Rattle.flow_machine.specs.Solo.{ReachesNet}
use Rattle.flow_journal.specs.Journals.{NamesTurns, NamesSeen}
use Rattle.flow_journal.specs.Runs.{IsScheduled}
use Rattle.flow_report.specs.Of.{told_of}
use Rattle.flow_report.specs.States.{TellsOf}

-- No work is still to come in the net.
abbrev pub OwesNoWork : {K : Type 0} → NetValue K → Type 0
OwesNoWork {K} net = (p : ℕ) (b : BodyValue K) → slice_get net.bodies p ≡ Some b → IsThoughtStage b.process.stage

-- The journal is a schedule from the start of the plan; and the state to which it leads is one that the net stands for, and of which its report tells.
pub record TellsOfSchedule {K : Type 0} (rules : Rules K) (plan : Plan) (components : List K) (journal : Journal) (net : NetValue K) : Type 0 where
  pub last : State K
  pub schedule : IsScheduled rules plan components journal last
  pub stands : StandsForOpen (shown_net net) last
  pub tells : TellsOf plan last (told_of plan net)

-- A net that started from a plan, and went on by turns and works in some order until no work was still to come in it, tells so of the
-- journal that its turns and numbers are. (A process may go on there.)
abbrev pub PausedNetsTell : {K : Type 0} → Rules K → Type 0
PausedNetsTell {K} rules =
    (plan : Plan) (components : List K) (start net : NetValue K) (turns seen : List ℕ)
    → StartsWell rules plan components
    → StartsNet plan components start
    → ReachesNet rules start net
    → OwesNoWork net
    → NamesTurns net turns
    → NamesSeen net seen
    → TellsOfSchedule rules plan components (record { turns = turns; seen = seen }) net
