-- When a valid plan can start with its components.
use Rattle.std.specs.Prelude.{◌≡◌, ℕ, List, length, Some, IsSome, IsTrue, slice_get}
use Rattle.flow_component.specs.Laws.{Rules, CanStart}
use Rattle.flow_plan.specs.declared.plan.Process.{Process}
use Rattle.flow_plan.specs.Network.{Network}
use Rattle.flow_plan.specs.Valid.{IsValid, HasSender}
use Rattle.flow_model.specs.Plans.{StartsWell, sends_at}

-- The component fits process p: it has the process's numbers of inputs and outputs, each output that it uses is a sender of a connection, and it can start with empty hands.
pub record ComponentFits {K : Type 0} (rules : Rules K) (network : Network) (p : ℕ) (process : Process) (component : K) : Type 0 where
  pub inputs : (rules.shape component).inputs ≡ process.inputs
  pub outputs : (rules.shape component).outputs ≡ process.outputs
  pub used : (o : ℕ) → IsTrue (rules.uses component o) → HasSender network p o
  pub can_start : CanStart (rules.ready component)

-- There are as many components as processes, and each component fits the process at its place.
pub record ComponentsFit {K : Type 0} (rules : Rules K) (network : Network) (components : List K) : Type 0 where
  pub one_each : length components ≡ length network.processes
  pub fit : (p : ℕ) (process : Process) (component : K) → slice_get network.processes p ≡ Some process → slice_get components p ≡ Some component → ComponentFits rules network p process component

-- A valid plan whose components fit starts well.
abbrev pub StartsPlans : {K : Type 0} → Rules K → Type 0
StartsPlans {K} rules =
    (network : Network) (components : List K) → IsValid network → ComponentsFit rules network components → StartsWell rules network components

-- In a valid plan an output that is a sender of a connection has a connection to send to.
abbrev pub SendsOut : Type 0
SendsOut = (network : Network) (p o : ℕ) → IsValid network → HasSender network p o → IsSome (sends_at network p o)
