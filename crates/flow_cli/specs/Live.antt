-- What contracts see of a network that runs, whether some of its components are the caller's own or none is.
use Rattle.flow_machine.specs.Values.{NetValue}
use Rattle.flow_runner.specs.declared.worked.Worked.{Worked}
use Rattle.flow_load.specs.Offers.{AnyKind}

-- A network of components of any kinds.
abbrev pub AnyNet : Type 0
AnyNet = NetValue AnyKind

-- The same whose turns were made.
abbrev pub AnyWorked : Type 0
AnyWorked = Worked AnyKind
