-- The plan of a flat text.
use Rattle.flow_limits.specs.declared.TheConstants.{DEFAULT_CAPACITY}
use Rattle.std.specs.Prelude.{ℕ, ◌+◌, ◌-◌, ◌==◌, ◌&&◌, max, not, if◌then◌else◌, Bool, true, false, List, [], ◌∷◌, ◌++◌, map, take, Option, Some, None, slice_get, unwrap_or}
use Rattle.std.specs.List.{filter, filter_map, sum_by}
use Rattle.std.specs.Option.{option_map_or}
use Rattle.flow_net.specs.declared.draft.End.{End}
use Rattle.flow_plan.specs.declared.kind.KindSpec.{KindSpec}
use Rattle.flow_plan.specs.declared.plan.Sender.{Sender}
use Rattle.flow_plan.specs.declared.plan.Process.{Process}
use Rattle.flow_plan.specs.declared.plan.Connection.{Connection}
use Rattle.flow_plan.specs.declared.plan.PortRow.{PortRow}
use Rattle.flow_plan.specs.declared.plan.PortTable.{PortTable}
use Rattle.flow_plan.specs.Network.{Network, is_stream}
use Rattle.flow_net.specs.Calls.{first_given}
use Rattle.flow_net.specs.Finishes.{front}
use Rattle.flow_parse.specs.declared.value.NetPart.{NetPart}
use Rattle.flow_flat.specs.Names.{PortAt, Join, text_ports, is_on, joins_of, texts_of}

-- The two are one element of one port.
abbrev pub same_element : End → End → Bool
same_element a b = (a.port == b.port) && (a.element == b.element)

-- Each element once, in the order in which they come first.
abbrev pub firsts : List End → List End
firsts [] = []
firsts (e ∷ es) = e ∷ filter (λ x. not (same_element e x)) (firsts es)

-- The connect statements into one input, in order.
abbrev pub joins_into : List Join → End → List Join
joins_into joins into = filter (λ (j : Join). same_element j.into into) joins

-- The inputs that receive from connections, in the order of their first connect statements.
abbrev pub receivers : List Join → List End
receivers joins = firsts (map (λ (j : Join). j.into) joins)

-- The first number that is given, if any.
abbrev pub capacity_given : List Join → Option ℕ
capacity_given [] = None
capacity_given (j ∷ js) = first_given j.capacity (capacity_given js)

-- The elements that statements name.
abbrev pub ends_of : List Join → List (End × List ℕ) → List End
ends_of joins texts = map (λ (j : Join). j.out) joins ++ map (λ (j : Join). j.into) joins ++ map (λ (t : End × List ℕ). t.0) texts

-- One more than the greatest element that is named of a port, and 0 where none is.
abbrev pub size_of : List End → ℕ → ℕ
size_of [] g = 0
size_of (e ∷ es) g = if e.port == g then max (e.element + 1) (size_of es g) else size_of es g

-- A port with the number of its elements: of an array up to the last that is named, of another the one.
pub record Sized : Type 0 where
  pub port : PortAt
  pub elements : ℕ

-- The ports with their numbers of elements, the first of them number g.
abbrev pub sized_from : List End → ℕ → List PortAt → List Sized
sized_from ends g [] = []
sized_from ends g (port ∷ ports) = record { port = port; elements = if port.spec.array then size_of ends g else 1 } ∷ sized_from ends (g + 1) ports

-- The numbers that a port has room for on one side of a process: one for each element of a stream port, and none on another side.
abbrev pub numbers : ℕ → Bool → Sized → ℕ
numbers p input x = if is_on p input x.port then (if is_stream x.port.spec.class then x.elements else 0) else 0

-- The process of the port of an element.
abbrev pub process_at : List Sized → End → ℕ
process_at ports end = option_map_or (λ (x : Sized). x.port.process) (slice_get ports end.port) 0

-- The port of the element is an input.
abbrev pub is_input : List Sized → End → Bool
is_input ports end = option_map_or (λ (x : Sized). x.port.input) (slice_get ports end.port) false

-- The place of the port among those of its side of its process.
abbrev pub place_at : List Sized → End → ℕ
place_at ports end = option_map_or (λ (x : Sized). x.port.place) (slice_get ports end.port) 0

-- The port of the element carries packets.
abbrev pub carries_at : List Sized → End → Bool
carries_at ports end = option_map_or (λ (x : Sized). is_stream x.port.spec.class) (slice_get ports end.port) false

-- The number of an element: those of the ports before its own on its side of its process, and those before it in its own.
abbrev pub number_of : List Sized → End → ℕ
number_of ports end = sum_by (numbers (process_at ports end) (is_input ports end)) (take end.port ports) + end.element

-- The output that a connection begins at.
abbrev pub sender_of : List Sized → Join → Sender
sender_of ports j = record { process = process_at ports j.out; output = number_of ports j.out }

-- The connection into an input: its senders are those of its connect statements, in order; its capacity is the given one, or DEFAULT_CAPACITY.
abbrev pub connection_of : List Sized → List Join → End → Connection
connection_of ports joins into = record {
  receiver = process_at ports into;
  input = number_of ports into;
  capacity = unwrap_or (capacity_given (joins_into joins into)) DEFAULT_CAPACITY;
  senders = map (sender_of ports) (joins_into joins into);
}

-- A text at an option port of a process, with the place of the port.
abbrev pub option_of : List Sized → ℕ → End × List ℕ → Option (ℕ × List ℕ)
option_of ports p t = if (process_at ports t.0 == p) && not (carries_at ports t.0) then Some (place_at ports t.0, t.1) else None

-- A text at a stream port of a process, with the number of the input.
abbrev pub initial_of : List Sized → ℕ → End × List ℕ → Option (ℕ × List ℕ)
initial_of ports p t = if (process_at ports t.0 == p) && carries_at ports t.0 then Some (number_of ports t.0, t.1) else None

-- A process of the plan: its automatic ports are no inputs and outputs of its own.
abbrev pub process_of : List Sized → List (End × List ℕ) → ℕ → List ℕ × List ℕ → Process
process_of ports texts p x = record {
  name = x.0;
  kind = x.1;
  options = filter_map (option_of ports p) texts;
  initials = filter_map (initial_of ports p) texts;
  inputs = sum_by (numbers p true) ports - 1;
  outputs = sum_by (numbers p false) ports - 1;
}

-- The processes of the plan, the first of them number p.
abbrev pub processes_from : List Sized → List (End × List ℕ) → ℕ → List (List ℕ × List ℕ) → List Process
processes_from ports texts p [] = []
processes_from ports texts p (x ∷ xs) = process_of ports texts p x ∷ processes_from ports texts (p + 1) xs

-- The ports of one side of a process, with their numbers of elements.
abbrev pub rows_of : List Sized → ℕ → Bool → List PortRow
rows_of ports p input = map (λ (x : Sized). record { spec = x.port.spec; elements = x.elements }) (filter (λ (x : Sized). is_on p input x.port) ports)

-- The tables of ports of the processes, without the automatic ones, the first of them number p.
abbrev pub tables_from : List Sized → ℕ → List (List ℕ × List ℕ) → List PortTable
tables_from ports p [] = []
tables_from ports p (x ∷ xs) = record { inputs = front (rows_of ports p true); outputs = front (rows_of ports p false) } ∷ tables_from ports (p + 1) xs

-- The network of these processes, with these ports, connect statements and texts.
abbrev pub network_of : List (List ℕ × List ℕ) → List Sized → List Join → List (End × List ℕ) → Network
network_of processes ports joins texts = record {
  processes = processes_from ports texts 0 processes;
  connections = map (connection_of ports joins) (receivers joins);
  tables = tables_from ports 0 processes;
}

-- The ports of a text, sized by what its statements name.
abbrev pub sized_ports : List PortAt → List Join → List (End × List ℕ) → List Sized
sized_ports ports joins texts = sized_from (ends_of joins texts) 0 ports

-- The plan of a flat text over a table of kinds: process number k is its k-th process.
abbrev pub plan_of : List KindSpec → NetPart → Network
plan_of kinds text =
    let ports = text_ports kinds text.processes in
    let joins = joins_of text.processes ports text.statements in
    let texts = texts_of text.processes ports text.statements in
    network_of text.processes (sized_ports ports joins texts) joins texts
