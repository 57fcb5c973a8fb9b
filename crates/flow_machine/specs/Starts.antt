-- How a net starts.
use Rattle.std.specs.Prelude.{◌≡◌, ℕ, List, [], None, Some, slice_get, length, map}
use Rattle.flow_model.specs.States.{Process}
use Rattle.flow_model.specs.Plans.{process_at_start, start_of}
use Rattle.flow_plan.specs.Network.{Network as Plan}
use Rattle.flow_plan.specs.declared.plan.Process.{Process as PlanProcess}
use Rattle.flow_plan.specs.declared.plan.Connection.{Connection as NetConnection}
use Rattle.flow_model.specs.Stands.{ChannelShown, StandsForOpen}
use Rattle.flow_machine.specs.Values.{BodyValue, NetValue, shown_net}
use Rattle.flow_machine.specs.Thoughts.{IsSet}

-- A body that has made no turn is this process, and is set for its first turn.
pub record StartsBody {K : Type 0} (x : Process K) (b : BodyValue K) : Type 0 where
  pub process : b.process ≡ x
  pub dropped : b.dropped ≡ 0
  pub leaving : b.leaving ≡ None
  pub stamps : b.stamps ≡ []
  pub levels : b.levels ≡ []
  pub set : IsSet b

-- Every process of the net is set.
abbrev pub AllSet : {K : Type 0} → List (BodyValue K) → Type 0
AllSet {K} bodies = (p : ℕ) (b : BodyValue K) → slice_get bodies p ≡ Some b → IsSet b

-- Bodies that have made no turn are the processes of the plan at their start, each with its component.
pub record StartsBodies {K : Type 0} (plan : Plan) (components : List K) (bodies : List (BodyValue K)) : Type 0 where
  pub count : length bodies ≡ length plan.processes
  pub each : (p : ℕ) (q : PlanProcess) (component : K) (b : BodyValue K) → slice_get plan.processes p ≡ Some q → slice_get components p ≡ Some component → slice_get bodies p ≡ Some b → StartsBody (process_at_start plan p q component) b

-- A connection at its start: it is empty, with every sender open, and nothing was put.
abbrev pub channel_begun : NetConnection → ChannelShown
channel_begun c = record { packets = []; capacity = c.capacity; open_senders = length c.senders; puts = 0; takes = 0 }

-- The channels of a start: empty, with the capacity and the senders of their connections.
abbrev pub StartsChannels : List NetConnection → List ChannelShown → Type 0
StartsChannels connections channels = channels ≡ map channel_begun connections

-- A net that has just started: it stands for the start state of the plan with these components, each process is set, no turn was made, and its
-- connections are the plan's.
pub record StartsNet {K : Type 0} (plan : Plan) (components : List K) (net : NetValue K) : Type 0 where
  pub stands : StandsForOpen (shown_net net) (start_of plan components)
  pub set : AllSet net.bodies
  pub unmade : (p : ℕ) (b : BodyValue K) → slice_get net.bodies p ≡ Some b → (b.stamps ≡ []) × (b.levels ≡ [])
  pub connections : net.connections ≡ plan.connections
