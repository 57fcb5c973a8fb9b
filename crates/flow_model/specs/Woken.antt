-- Which processes are ever started. (Scheduling rules of Morrison's book: a process is first activated by the arrival of a packet, or at the start where it has
-- no input connections.)
use Rattle.std.specs.Prelude.{◌≡◌, ◌≢◌, ◌⊎◌, ℕ, ◌<◌, List, [], Some, slice_get}
use Rattle.flow_component.specs.Laws.{Rules}
use Rattle.flow_component.specs.Runs.{starts}
use Rattle.flow_model.specs.States.{From, Process, State}
use Rattle.flow_model.specs.Schedules.{Journal, Leads}
use Rattle.flow_model.specs.Plans.{start_of, StartsWell}
use Rattle.flow_plan.specs.Network.{Network as Plan}
use Rattle.flow_model.specs.Runs.{NoneConnected}

-- A packet was put on a connection at one of its inputs.
pub record GetsSome {K : Type 0} (s : State K) (x : Process K) : Type 0 where
  pub input : ℕ
  pub connection : ℕ
  pub at : slice_get x.inputs input ≡ Some (From connection)
  pub some : s.past.put connection ≢ []

-- Whatever the schedule, a process that was started has no connected input, or a packet was put for it.
abbrev pub KeepsWoken : {K : Type 0} → Rules K → Type 0
KeepsWoken {K} rules =
    (plan : Plan) (components : List K) (journal : Journal) (s : State K) → StartsWell rules plan components → Leads rules (start_of plan components) journal s
    → (p : ℕ) (x : Process K) → slice_get s.kept.processes p ≡ Some x → 0 < starts (s.past.told p) → NoneConnected x ⊎ GetsSome s x
