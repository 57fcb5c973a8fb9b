-- A network without components of the caller's own runs exactly as the network of its other components. (This project's own.)
use Rattle.std.specs.Prelude.{◌≡◌, ◌↔◌, ℕ, List, Some, slice_get}
use Rattle.std.specs.Option.{option_map}
use Rattle.flow_component.specs.Laws.{Rules}
use Rattle.flow_plan.specs.Network.{Network as Plan}
use Rattle.flow_own.specs.Mixed.{Mixed, Other}
use Rattle.flow_model.specs.States.{Process, State}
use Rattle.flow_model.specs.Schedules.{Journal, Leads, Prefix}
use Rattle.flow_model.specs.Robin.{RoundRobin}
use Rattle.flow_model.specs.Plans.{start_of, StartsWell}
use Rattle.flow_model.specs.Replaced.{with_component}
use Rattle.flow_journal.specs.Runs.{IsScheduled, IsRun}
use Rattle.flow_played.specs.Rules.{played_rules}
use Rattle.flow_played.specs.Others.{IsOther, others, as_mixed}
use Rattle.flow_played.specs.Alike.{ToldAlike}

-- A plan with these components, as those of a network in which components of the caller's own may stand, runs as it does with them by themselves.
pub record RunsAsItIs {K : Type 0} (rules : Rules K) (plan : Plan) (components : List K) : Type 0 where
  -- they fit it or don't
  pub starts : StartsWell rules plan components ↔ StartsWell (played_rules rules) plan (others components)
  -- wherever a schedule leads no component is the caller's own
  pub only : (journal : Journal) (t : State (Mixed K)) → Leads (played_rules rules) (start_of plan (others components)) journal t → (s : State K) × (t ≡ as_mixed s)
  -- a journal is a schedule to the same states
  pub leads : (journal : Journal) (s : State K) → Leads rules (start_of plan components) journal s ↔ Leads (played_rules rules) (start_of plan (others components)) journal (as_mixed s)
  -- it has the same prefixes
  pub prefixes : (journal front : Journal) (s mid : State K)
      → Prefix rules (start_of plan components) journal s front mid ↔ Prefix (played_rules rules) (start_of plan (others components)) journal (as_mixed s) front (as_mixed mid)
  -- it is the round robin or isn't
  pub robins : (journal : Journal) (s : State K) → RoundRobin rules (start_of plan components) journal s ↔ RoundRobin (played_rules rules) (start_of plan (others components)) journal (as_mixed s)
  -- it is the schedule of a network that keeps its packets
  pub scheduled : (journal : Journal) (s : State K) → IsScheduled rules plan components journal s ↔ IsScheduled (played_rules rules) plan (others components) journal (as_mixed s)
  -- it is the journal of a run by so many workers
  pub runs : (workers : ℕ) (journal : Journal) (s : State K) → IsRun rules workers plan components journal s ↔ IsRun (played_rules rules) workers plan (others components) journal (as_mixed s)

-- So does every plan, with whatever components.
abbrev pub AllRunAsTheyAre : {K : Type 0} → Rules K → Type 0
AllRunAsTheyAre {K} rules = (plan : Plan) (components : List K) → RunsAsItIs rules plan components

-- Components none of which is the caller's own are others.
abbrev pub AreOthers : Type 0 → Type 0
AreOthers K = (components : List (Mixed K)) → ((p : ℕ) (component : Mixed K) → slice_get components p ≡ Some component → IsOther component) → (found : List K) × (components ≡ others found)

-- The state of such a network is told of as it is by itself.
abbrev pub TellsAsItIs : Type 0 → Type 0
TellsAsItIs K = (s : State K) → ToldAlike s (as_mixed s)

-- At each place stands the process that stood there, with its component.
abbrev pub StandsInPlace : Type 0 → Type 0
StandsInPlace K = (s : State K) (p : ℕ) → slice_get (as_mixed s).kept.processes p ≡ option_map (λ (x : Process K). with_component x (Other x.component)) (slice_get s.kept.processes p)
