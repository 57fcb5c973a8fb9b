-- The words in which a refusal is told.
use Rattle.std.specs.Prelude.{ℕ, List, ◌++◌, Some, None, codes}
use Rattle.std.specs.Fmt.{decimal}
use Rattle.flow_net.specs.declared.fault.Many.{Many}
use Rattle.flow_net.specs.declared.fault.Many.TheVariants.{Processes, Connections, CapacitySum, Instances}
use Rattle.flow_net.specs.declared.fault.PlanFault.{PlanFault}
use Rattle.flow_net.specs.declared.fault.PlanFault.TheVariants.{SameName, UnknownKind, UnknownProcess, PortUnknown, NeedsInitial, Capacity, PortTaken, BadOption, PortMissing, ElementGap, TooMany}
use Rattle.flow_plan.specs.declared.kind.PortRef.{PortRef}
use Rattle.flow_plan.specs.Network.{spelled}
use Rattle.flow_flat.specs.declared.fault.ExpandFault.{ExpandFault}
use Rattle.flow_flat.specs.declared.fault.ExpandFault.TheVariants.{Recursive, Depth, OuterPort, Plan}
use Rattle.flow_parse.specs.declared.fault.Reason.{Reason}
use Rattle.flow_parse.specs.declared.fault.Reason.TheVariants.{Header, Byte, Quote, Form, Name, Number, Kind, Subnet, Limit}
use Rattle.flow_parse.specs.declared.fault.NetFault.{NetFault}

-- A process and a port of it, with the element where one is named: P.PORT or P.PORT[e].
abbrev pub port_text : List ℕ → PortRef → List ℕ
port_text process port = process ++ codes "." ++ spelled port

-- What there are too many of.
abbrev pub many_text : Many → List ℕ
many_text Processes = codes "too many processes"
many_text Connections = codes "too many connections"
many_text CapacitySum = codes "capacity sum"
many_text Instances = codes "too many subnets"

-- What is wrong with a flat network, and where.
abbrev pub plan_fault_text : PlanFault → List ℕ
plan_fault_text (SameName process) = codes "same name " ++ process
plan_fault_text (UnknownKind process kind) = codes "unknown kind " ++ kind ++ codes " of " ++ process
plan_fault_text (UnknownProcess process) = codes "unknown process " ++ process
plan_fault_text (PortUnknown process port) = codes "unknown port " ++ port_text process port
plan_fault_text (NeedsInitial process port) = codes "needs initial " ++ port_text process port
plan_fault_text (Capacity capacity) = codes "capacity " ++ decimal capacity
plan_fault_text (PortTaken process port) = codes "port taken " ++ port_text process port
plan_fault_text (BadOption process port) = codes "bad option " ++ port_text process port
plan_fault_text (PortMissing process port) = codes "port missing " ++ port_text process (record { name = port; element = None })
plan_fault_text (ElementGap process port element) = codes "element gap " ++ port_text process (record { name = port; element = Some element })
plan_fault_text (TooMany many) = many_text many

-- What is wrong with a network, and where.
abbrev pub fault_text : ExpandFault → List ℕ
fault_text (Recursive subnet) = codes "recursive subnet " ++ subnet
fault_text (Depth process) = codes "subnet depth " ++ process
fault_text (OuterPort process port) = codes "outer port " ++ port_text process port
fault_text (Plan fault) = plan_fault_text fault

-- The word for what is wrong with a line.
abbrev pub reason_text : Reason → List ℕ
reason_text Header = codes "header"
reason_text Byte = codes "byte"
reason_text Quote = codes "quote"
reason_text Form = codes "form"
reason_text Name = codes "name"
reason_text Number = codes "number"
reason_text Kind = codes "kind"
reason_text Subnet = codes "subnet"
reason_text Limit = codes "limit"

-- What is wrong with a network file, and in which line.
abbrev pub net_fault_text : NetFault → List ℕ
net_fault_text fault = codes "line " ++ decimal fault.line ++ codes ": " ++ reason_text fault.reason
