-- The networks that texts spell, and how they start with standard components.
use Rattle.std.specs.Prelude.{◌≡◌, ℕ, List, length, Ok, Some, slice_get}
use Rattle.flow_plan.specs.declared.plan.Process.{Process}
use Rattle.flow_plan.specs.Network.{Network}
use Rattle.flow_parse.specs.declared.value.NetText.{NetText}
use Rattle.flow_parse.specs.Files.{Spells}
use Rattle.flow_flat.specs.Texts.{TextComesTo}
use Rattle.flow_machine.specs.Values.{NetValue}
use Rattle.flow_machine.specs.Starts.{StartsNet}
use Rattle.flow_catalogue.specs.Kinds.{std_kinds_of}
use Rattle.flow_catalogue.specs.Processes.{IsMade, Fits}
use Rattle.flow_catalogue.specs.declared.standard.Std.{Std}

-- The bytes spell a value, and this is its plan over the standard kinds that a file of its version may name.
pub record IsPlanOf (text : List ℕ) (plan : Network) : Type 0 where
  pub value : NetText
  pub spelled : Spells text value
  pub comes : TextComesTo (std_kinds_of value.version) value (Ok plan)

-- The component is the process's own in its first state, on these bytes where it reads a file.
pub record IsComponentOn (bytes : List ℕ) (plan : Network) (p : ℕ) (process : Process) (component : Std) : Type 0 where
  pub made : IsMade plan p process bytes component
  pub fits : Fits plan p process component

-- The component is that of process p of the plan.
pub record HasComponent (bytes : List ℕ) (plan : Network) (p : ℕ) (component : Std) : Type 0 where
  pub process : Process
  pub there : slice_get plan.processes p ≡ Some process
  pub is : IsComponentOn bytes plan p process component

-- The components are those of the plan's processes, in order, each reader on the same bytes.
pub record AreComponentsOn (bytes : List ℕ) (plan : Network) (components : List Std) : Type 0 where
  pub count : length components ≡ length plan.processes
  pub each : (p : ℕ) (component : Std) → slice_get components p ≡ Some component → HasComponent bytes plan p component

-- The net is the network of this text at its start, each reader on the same bytes.
pub record HasStarted (text bytes : List ℕ) (net : NetValue Std) : Type 0 where
  pub plan : Network
  pub components : List Std
  pub is_plan : IsPlanOf text plan
  pub are_components : AreComponentsOn bytes plan components
  pub starts : StartsNet plan components net
