-- The flat text of a value: the processes and statements that it stands for when its subnets are written out.
use Rattle.flow_limits.specs.declared.TheConstants.{SUBNET_DEPTH}
use Rattle.std.specs.Prelude.{◌+◌, ℕ, zero, suc, if◌then◌else◌, Bool, true, false, List, [], ◌∷◌, ◌++◌, Option, Some, None, Ok, Err, is_some, slice_get, codes}
use Rattle.std.specs.declared.result.Result.{Result}
use Rattle.std.specs.List.{filter_map, find, flat_map}
use Rattle.std.specs.Option.{option_and_then, option_map, option_map_or}
use Rattle.std.specs.Str.{bytes_eq}
use Rattle.flow_plan.specs.declared.kind.PortRef.{PortRef}
use Rattle.flow_parse.specs.declared.value.Statement.{Statement}
use Rattle.flow_parse.specs.declared.value.Statement.TheVariants.{Connect, Initial, InPort, OutPort}
use Rattle.flow_parse.specs.declared.value.NetPart.{NetPart}
use Rattle.flow_parse.specs.declared.value.NetText.{NetText}
use Rattle.flow_flat.specs.declared.fault.ExpandFault.{ExpandFault}
use Rattle.flow_flat.specs.declared.fault.ExpandFault.TheVariants.{OuterPort}

-- The subnet of a name.
abbrev pub subnet_called : NetText → List ℕ → Option NetPart
subnet_called text name = option_map (λ (s : List ℕ × NetPart). s.1) (find (λ (s : List ℕ × NetPart). bytes_eq s.0 name) text.subnets)

-- The subnet that a process of a part is, if it is one.
abbrev pub subnet_at : NetText → NetPart → List ℕ → Option NetPart
subnet_at text part name = option_and_then (λ (x : List ℕ × List ℕ). subnet_called text x.1) (find (λ (x : List ℕ × List ℕ). bytes_eq x.0 name) part.processes)

-- A process that a text stands for: its flat name, its kind, and the subnets that it stands in, the innermost first.
pub record Instance : Type 0 where
  pub name : List ℕ
  pub kind : List ℕ
  pub inside : List (List ℕ)

-- How many levels of a text are looked at: main, the subnets that may stand one inside the other, and one level more, whose processes are refused.
abbrev pub levels : ℕ
levels = SUBNET_DEPTH + 2

-- What the names inside a process begin with.
abbrev pub within : List ℕ → List ℕ → List ℕ
within prefix name = prefix ++ name ++ codes "."

-- The processes of a part, so many levels down: each one that is a subnet is followed at once by those inside it.
abbrev pub instances : NetText → ℕ → List ℕ → List (List ℕ) → NetPart → List Instance
instances text zero prefix inside part = []
instances text (suc n) prefix inside part = flat_map (λ (x : List ℕ × List ℕ).
    record { name = prefix ++ x.0; kind = x.1; inside = inside } ∷ option_map_or (instances text n (within prefix x.0) (x.1 ∷ inside)) (subnet_called text x.1) []) part.processes

-- The port inside a subnet for which an outer port of this side and name stands.
abbrev pub stands_for : Bool → List ℕ → Statement → Option (List ℕ × PortRef)
stands_for true name (InPort outer to into) = if bytes_eq outer name then Some (to, into) else None
stands_for false name (OutPort from out outer) = if bytes_eq outer name then Some (from, out) else None
stands_for _ name _ = None

-- What an outer port of a subnet stands for: a process in it, and a port of that.
abbrev pub outer_port : NetPart → Bool → PortRef → Option (List ℕ × PortRef)
outer_port part input port = if is_some port.element then None else slice_get (filter_map (stands_for input port.name) part.statements) 0

-- The process and port that a reference in a part means: of a subnet process the port for which its outer port stands, and so on inside it.
abbrev pub meant : NetText → ℕ → List ℕ → NetPart → Bool → List ℕ → PortRef → Result (List ℕ × PortRef) ExpandFault
meant text zero prefix part input name port = Ok (prefix ++ name, port)
meant text (suc n) prefix part input name port = elim (subnet_at text part name) [
  | None ↦ Ok (prefix ++ name, port)
  | Some inner ↦ elim (outer_port inner input port) [
    | None ↦ Err (OuterPort (prefix ++ name) port)
    | Some p ↦ meant text n (within prefix name) inner input p.0 p.1
  ]
]

-- A statement with its output and its input as they are meant, or the first of them that means nothing.
abbrev pub connect_meant : Option ℕ → Result (List ℕ × PortRef) ExpandFault → Result (List ℕ × PortRef) ExpandFault → Result Statement ExpandFault
connect_meant capacity (Ok out) (Ok into) = Ok (Connect out.0 out.1 capacity into.0 into.1)
connect_meant capacity (Ok out) (Err fault) = Err fault
connect_meant capacity (Err fault) into = Err fault

-- The text at what its port stands for.
abbrev pub initial_meant : List ℕ → Result (List ℕ × PortRef) ExpandFault → Result Statement ExpandFault
initial_meant text (Ok into) = Ok (Initial text into.0 into.1)
initial_meant text (Err fault) = Err fault

-- What a statement of a part means. A line of an outer port is no statement.
abbrev pub statement_meant : NetText → List ℕ → NetPart → Statement → Option (Result Statement ExpandFault)
statement_meant text prefix part (Connect from out capacity to into) = Some (connect_meant capacity (meant text levels prefix part false from out) (meant text levels prefix part true to into))
statement_meant text prefix part (Initial bytes to into) = Some (initial_meant bytes (meant text levels prefix part true to into))
statement_meant text prefix part (InPort outer to into) = None
statement_meant text prefix part (OutPort from out outer) = None

-- The statements of a part, so many levels down: its own, followed by those of its subnet processes in the order of the processes.
abbrev pub statements_in : NetText → ℕ → List ℕ → NetPart → List (Result Statement ExpandFault)
statements_in text zero prefix part = []
statements_in text (suc n) prefix part = filter_map (statement_meant text prefix part) part.statements
    ++ flat_map (λ (x : List ℕ × List ℕ). option_map_or (statements_in text n (within prefix x.0)) (subnet_called text x.1) []) part.processes
