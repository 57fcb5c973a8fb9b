-- What the statements of a flat text name: its processes by their numbers, and the elements of their ports.
use Rattle.std.specs.Prelude.{ℕ, ◌+◌, ◌==◌, ◌&&◌, Bool, true, false, List, [], ◌∷◌, ◌++◌, map, Option, Some, None, Ok, Err, slice_get, position}
use Rattle.std.specs.declared.result.Result.{Result}
use Rattle.std.specs.Option.{option_and_then, option_map, ok_or}
use Rattle.std.specs.List.{filter_map}
use Rattle.std.specs.Str.{bytes_eq}
use Rattle.flow_net.specs.declared.draft.End.{End}
use Rattle.flow_net.specs.declared.fault.PlanFault.{PlanFault}
use Rattle.flow_net.specs.declared.fault.PlanFault.TheVariants.{UnknownProcess, PortUnknown}
use Rattle.flow_plan.specs.declared.kind.KindSpec.{KindSpec}
use Rattle.flow_plan.specs.declared.kind.PortSpec.{PortSpec}
use Rattle.flow_plan.specs.declared.kind.PortRef.{PortRef}
use Rattle.flow_net.specs.Drafts.{◌>>=◌, same, element_named}
use Rattle.flow_net.specs.Calls.{kind_named}
use Rattle.flow_net.specs.Kinds.{all_inputs, all_outputs}
use Rattle.flow_net.specs.Over.{carries}
use Rattle.flow_parse.specs.declared.value.Statement.{Statement}
use Rattle.flow_parse.specs.declared.value.Statement.TheVariants.{Connect, Initial, InPort, OutPort}

-- A port of a text: the number of its process, its side, its place in the table of its kind on that side, and its entry there.
pub record PortAt : Type 0 where
  pub process : ℕ
  pub input : Bool
  pub place : ℕ
  pub spec : PortSpec

-- The ports on one side of a process, in the order of the table.
abbrev pub side_from : ℕ → Bool → ℕ → List PortSpec → List PortAt
side_from p input place [] = []
side_from p input place (spec ∷ specs) = record { process = p; input = input; place = place; spec = spec } ∷ side_from p input (place + 1) specs

-- The ports of a process: the inputs and then the outputs of its kind, each with the automatic one behind them. An output carries packets.
abbrev pub ports_of_kind : ℕ → Option KindSpec → List PortAt
ports_of_kind p None = []
ports_of_kind p (Some kind) = side_from p true 0 (all_inputs kind.inputs) ++ side_from p false 0 (map carries (all_outputs kind.outputs))

-- The ports of processes, of which the first has this number.
abbrev pub ports_from : List KindSpec → ℕ → List (List ℕ × List ℕ) → List PortAt
ports_from kinds p [] = []
ports_from kinds p (x ∷ xs) = ports_of_kind p (kind_named kinds x.1) ++ ports_from kinds (p + 1) xs

-- The ports of all processes of a text.
abbrev pub text_ports : List KindSpec → List (List ℕ × List ℕ) → List PortAt
text_ports kinds processes = ports_from kinds 0 processes

-- The number of the process of a name.
abbrev pub process_called : List (List ℕ × List ℕ) → List ℕ → Option ℕ
process_called processes name = position (λ (x : List ℕ × List ℕ). bytes_eq x.0 name) processes

-- A port on this side of this process.
abbrev pub is_on : ℕ → Bool → PortAt → Bool
is_on p input port = (port.process == p) && same port.input input

-- The place of a port among all ports, by its process, its side and its name.
abbrev pub port_called : List PortAt → ℕ → Bool → List ℕ → Option ℕ
port_called ports p input name = position (λ (port : PortAt). is_on p input port && bytes_eq port.spec.name name) ports

-- The element of the port at this place that is written: of an array the one that is given, or 0; of another port none may be given.
abbrev pub element_at : List PortAt → Option ℕ → ℕ → Option End
element_at ports element g = option_and_then (λ (port : PortAt). option_map (λ e. record { port = g; element = e }) (element_named port.spec.array element)) (slice_get ports g)

-- The element that a reference means, on this side of this process.
abbrev pub end_called : List PortAt → ℕ → Bool → PortRef → Option End
end_called ports p input port = option_and_then (element_at ports port.element) (port_called ports p input port.name)

-- The two ends of a connection, or the first of them that isn't there.
abbrev pub join_ends : List (List ℕ × List ℕ) → List PortAt → List ℕ → PortRef → List ℕ → PortRef → Result (End × End) PlanFault
join_ends processes ports from out to into = do
  sender ← ok_or (process_called processes from) (UnknownProcess from)
  receiver ← ok_or (process_called processes to) (UnknownProcess to)
  output ← ok_or (end_called ports sender false out) (PortUnknown from out)
  input ← ok_or (end_called ports receiver true into) (PortUnknown to into)
  Ok (output, input)

-- The input that a text is for, or what isn't there.
abbrev pub text_end : List (List ℕ × List ℕ) → List PortAt → List ℕ → PortRef → Result End PlanFault
text_end processes ports to into = do
  receiver ← ok_or (process_called processes to) (UnknownProcess to)
  ok_or (end_called ports receiver true into) (PortUnknown to into)

-- A connect statement, with the elements that it means.
pub record Join : Type 0 where
  pub out : End
  pub into : End
  pub capacity : Option ℕ

-- The connection between two ends, where both were found.
abbrev pub joined_by : Option ℕ → Result (End × End) PlanFault → Option Join
joined_by capacity (Ok ends) = Some (record { out = ends.0; into = ends.1; capacity = capacity })
joined_by capacity (Err fault) = None

-- The connection that a statement asks for.
abbrev pub join_of : List (List ℕ × List ℕ) → List PortAt → Statement → Option Join
join_of processes ports (Connect from out capacity to into) = joined_by capacity (join_ends processes ports from out to into)
join_of processes ports (Initial text to into) = None
join_of processes ports (InPort outer to into) = None
join_of processes ports (OutPort from out outer) = None

-- The text at an input, where that was found.
abbrev pub given_by : List ℕ → Result End PlanFault → Option (End × List ℕ)
given_by text (Ok input) = Some (input, text)
given_by text (Err fault) = None

-- The text that a statement gives.
abbrev pub text_of : List (List ℕ × List ℕ) → List PortAt → Statement → Option (End × List ℕ)
text_of processes ports (Connect from out capacity to into) = None
text_of processes ports (Initial text to into) = given_by text (text_end processes ports to into)
text_of processes ports (InPort outer to into) = None
text_of processes ports (OutPort from out outer) = None

-- The connect statements, in order.
abbrev pub joins_of : List (List ℕ × List ℕ) → List PortAt → List Statement → List Join
joins_of processes ports statements = filter_map (join_of processes ports) statements

-- The texts that are given, in order, each with its input.
abbrev pub texts_of : List (List ℕ × List ℕ) → List PortAt → List Statement → List (End × List ℕ)
texts_of processes ports statements = filter_map (text_of processes ports) statements
