-- What each call of a builder makes of what it holds, and which fault it gives first.
use Rattle.flow_limits.specs.declared.TheConstants.{CAPACITY_LIMIT, CONNECTION_LIMIT, ELEMENT_LIMIT, PROCESS_LIMIT, SENDER_LIMIT}
use Rattle.std.specs.Prelude.{ℕ, ◌+◌, ◌==◌, ◌&&◌, nat_le, not, if◌then◌else◌, Bool, true, false, List, [], ◌∷◌, ◌++◌, length, replicate, Option, Some, None, Ok, slice_get, is_some}
use Rattle.std.specs.declared.result.Result.{Result}
use Rattle.std.specs.Option.{option_and_then, option_map, option_map_or, ok_or}
use Rattle.std.specs.List.{find}
use Rattle.std.specs.Str.{bytes_eq}
use Rattle.flow_net.specs.declared.draft.End.{End}
use Rattle.flow_net.specs.declared.draft.Binding.{Binding}
use Rattle.flow_net.specs.declared.draft.Binding.TheVariants.{Free, Receives, Sends, Given}
use Rattle.flow_net.specs.declared.draft.DraftPort.{DraftPort}
use Rattle.flow_net.specs.declared.draft.DraftProcess.{DraftProcess}
use Rattle.flow_net.specs.declared.draft.Link.{Link}
use Rattle.flow_net.specs.declared.fault.Many.TheVariants as many
use Rattle.flow_net.specs.declared.fault.PlanFault.{PlanFault}
use Rattle.flow_net.specs.declared.fault.PlanFault.TheVariants.{SameName, UnknownKind, UnknownProcess, PortUnknown, NeedsInitial, Capacity, PortTaken, TooMany}
use Rattle.flow_plan.specs.declared.kind.KindSpec.{KindSpec}
use Rattle.flow_plan.specs.declared.kind.PortSpec.{PortSpec}
use Rattle.flow_plan.specs.declared.kind.PortRef.{PortRef}
use Rattle.flow_plan.specs.declared.kind.PortClass.TheVariants.{Stream}
use Rattle.flow_net.specs.Drafts.{Draft, ◌>>=◌, refused_if, updated, binding_at, bound, is_free, is_given, receives, process_named, port_named, element_named, is_stream_at}
use Rattle.flow_net.specs.Kinds.{all_inputs, all_outputs, takes_texts}

-- The kind of this name.
abbrev pub kind_named : List KindSpec → List ℕ → Option KindSpec
kind_named kinds name = find (λ (kind : KindSpec). bytes_eq kind.name name) kinds

-- The number of elements that a port has room for.
abbrev pub room_of : Bool → ℕ
room_of array = if array then ELEMENT_LIMIT else 1

-- A port of a new process: nothing is bound. An output carries packets, whatever its class says.
abbrev pub fresh_port : ℕ → Bool → ℕ → PortSpec → DraftPort
fresh_port process input place spec = record {
  process = process;
  input = input;
  place = place;
  spec = if input then spec else record spec { class = Stream };
  elements = replicate (room_of spec.array) Free;
}

-- The ports of a table from this place on.
abbrev pub fresh_ports : ℕ → Bool → ℕ → List PortSpec → List DraftPort
fresh_ports process input place [] = []
fresh_ports process input place (spec ∷ specs) = fresh_port process input place spec ∷ fresh_ports process input (place + 1) specs

-- A process before it has a text.
abbrev pub begun_as : ℕ → List ℕ → List ℕ → DraftProcess
begun_as number name kind = record { number = number; name = name; kind = kind; texts = [] }

-- The draft with one more process, and its ports: the inputs and then the outputs of its kind, each with the automatic one behind them.
abbrev pub with_process : Draft → List ℕ → KindSpec → Draft
with_process draft name kind = record draft {
  processes = draft.processes ++ begun_as (length draft.processes) name kind.name ∷ [];
  ports = draft.ports ++ (fresh_ports (length draft.processes) true 0 (all_inputs kind.inputs) ++ fresh_ports (length draft.processes) false 0 (all_outputs kind.outputs));
}

-- The kind of a new process: its name is new, its kind is there, and there are fewer than PROCESS_LIMIT processes.
abbrev pub kind_for : List KindSpec → List DraftProcess → List ℕ → List ℕ → Result KindSpec PlanFault
kind_for kinds processes name kind = do
  new ← refused_if (is_some (process_named processes name)) (SameName name)
  spec ← ok_or (kind_named kinds kind) (UnknownKind name kind)
  room ← refused_if (nat_le PROCESS_LIMIT (length processes)) (TooMany many.Processes)
  Ok spec

-- What naming a process makes of the draft.
abbrev pub after_process : Draft → List ℕ → List ℕ → Result Draft PlanFault
after_process draft name kind = do
  spec ← kind_for draft.kinds draft.processes name kind
  Ok (with_process draft name spec)

-- The process of a name, or that there is none.
abbrev pub process_of_name : List DraftProcess → List ℕ → Result ℕ PlanFault
process_of_name processes name = ok_or (process_named processes name) (UnknownProcess name)

-- The element of a port at this place, as it is written.
abbrev pub end_at : List DraftPort → Option ℕ → ℕ → Option End
end_at ports element place = option_and_then (λ (port : DraftPort). option_map (λ e. record { port = place; element = e }) (element_named port.spec.array element)) (slice_get ports place)

-- The element that a network names, on this side of this process.
abbrev pub end_named : List DraftPort → ℕ → Bool → PortRef → Option End
end_named ports number input port = option_and_then (end_at ports port.element) (port_named ports number input port.name)

-- The element that a network names, or that there is none.
abbrev pub end_of_port : List DraftPort → ℕ → Bool → List ℕ → PortRef → Result End PlanFault
end_of_port ports number input process port = ok_or (end_named ports number input port) (PortUnknown process port)

-- Both ends of a connection, as a network names them.
abbrev pub ends_of : List DraftProcess → List DraftPort → List ℕ → PortRef → List ℕ → PortRef → Result (End × End) PlanFault
ends_of processes ports from out to into = do
  sender ← process_of_name processes from
  receiver ← process_of_name processes to
  output ← end_of_port ports sender false from out
  input ← end_of_port ports receiver true to into
  Ok (output, input)

-- A capacity is from 1 to CAPACITY_LIMIT.
abbrev pub allowed_capacity : Option ℕ → Result (Unit {0}) PlanFault
allowed_capacity None = Ok tt
allowed_capacity (Some n) = refused_if (if nat_le 1 n && nat_le n CAPACITY_LIMIT then false else true) (Capacity n)

-- An element is bound.
abbrev pub is_taken : Option Binding → Bool
is_taken None = false
is_taken (Some binding) = if is_free binding then false else true

-- An element has a text.
abbrev pub has_text : Option Binding → Bool
has_text None = false
has_text (Some binding) = is_given binding

-- The connection into an element.
abbrev pub link_into : List DraftPort → End → Option ℕ
link_into ports end = option_and_then receives (binding_at ports end)

-- The capacity that a connection was given before.
abbrev pub capacity_before : List Link → Option ℕ → Option ℕ
capacity_before links link = option_and_then (λ c. option_and_then (λ (l : Link). l.capacity) (slice_get links c)) link

-- A capacity that is given again is the same.
abbrev pub same_capacity : Option ℕ → Option ℕ → Result (Unit {0}) PlanFault
same_capacity (Some before) (Some n) = refused_if (if before == n then false else true) (Capacity n)
same_capacity (Some before) None = Ok tt
same_capacity None n = Ok tt

-- A connection has its SENDER_LIMIT senders.
abbrev pub has_all_senders : Option Link → Bool
has_all_senders None = false
has_all_senders (Some link) = nat_le SENDER_LIMIT (length link.senders)

-- There are CONNECTION_LIMIT connections and this would be one more, or the connection has its SENDER_LIMIT senders.
abbrev pub is_full : List Link → Option ℕ → Bool
is_full links None = nat_le CONNECTION_LIMIT (length links)
is_full links (Some c) = has_all_senders (slice_get links c)

-- Whether two ends may be joined.
abbrev pub may_join : List DraftPort → List Link → List ℕ → PortRef → List ℕ → PortRef → Option ℕ → End → End → Result (Unit {0}) PlanFault
may_join ports links from out to into capacity output input = do
  stream ← refused_if (if is_stream_at ports input then false else true) (NeedsInitial to into)
  allowed ← allowed_capacity capacity
  unbound ← refused_if (is_taken (binding_at ports output)) (PortTaken from out)
  ungiven ← refused_if (has_text (binding_at ports input)) (PortTaken to into)
  agreed ← same_capacity (capacity_before links (link_into ports input)) capacity
  refused_if (is_full links (link_into ports input)) (TooMany many.Connections)

-- The capacity that was given first.
abbrev pub first_given : Option ℕ → Option ℕ → Option ℕ
first_given (Some before) n = Some before
first_given None n = n

-- The place of the next sender.
abbrev pub next_sender : Option Link → ℕ
next_sender None = 0
next_sender (Some link) = length link.senders

-- A connection with one more sender, and its capacity where it had none.
abbrev pub with_sender : End → Option ℕ → Link → Link
with_sender out capacity link = record link { capacity = first_given link.capacity capacity; senders = link.senders ++ out ∷ [] }

-- The connections after an output was joined to an input: a new one where the input has none, and else one more sender of the one that it has.
abbrev pub joined_links : List Link → End → End → Option ℕ → Option ℕ → List Link
joined_links links out into capacity None = links ++ record { into = into; capacity = capacity; senders = out ∷ [] } ∷ []
joined_links links out into capacity (Some c) = updated (with_sender out capacity) links c

-- The ports after an output was joined to an input: both are bound to the connection.
abbrev pub joined_ports : List DraftPort → List Link → End → End → Option ℕ → List DraftPort
joined_ports ports links out into None = bound (bound ports into (Receives (length links))) out (Sends (length links) 0)
joined_ports ports links out into (Some c) = bound ports out (Sends c (next_sender (slice_get links c)))

-- The draft with an output joined to an input.
abbrev pub joined : Draft → End → End → Option ℕ → Draft
joined draft out into capacity = record draft {
  ports = joined_ports draft.ports draft.links out into (link_into draft.ports into);
  links = joined_links draft.links out into capacity (link_into draft.ports into);
}

-- What connecting an output to an input makes of the draft.
abbrev pub after_connect : Draft → List ℕ → PortRef → Option ℕ → List ℕ → PortRef → Result Draft PlanFault
after_connect draft from out capacity to into = do
  ends ← ends_of draft.processes draft.ports from out to into
  allowed ← may_join draft.ports draft.links from out to into capacity ends.0 ends.1
  Ok (joined draft ends.0 ends.1 capacity)

-- The input takes texts.
abbrev pub takes_text : List DraftPort → End → Bool
takes_text ports end = option_map_or (λ (port : DraftPort). takes_texts port.spec) (slice_get ports end.port) false

-- The input that a text is for: it is there, it takes texts, and nothing is bound to it.
abbrev pub input_for : List DraftProcess → List DraftPort → List ℕ → PortRef → Result End PlanFault
input_for processes ports to into = do
  receiver ← process_of_name processes to
  input ← end_of_port ports receiver true to into
  textual ← refused_if (not (takes_text ports input)) (PortUnknown to into)
  unbound ← refused_if (is_taken (binding_at ports input)) (PortTaken to into)
  Ok input

-- The number of an element's process.
abbrev pub process_at : List DraftPort → End → ℕ
process_at ports end = option_map_or (λ (port : DraftPort). port.process) (slice_get ports end.port) 0

-- The place of the next text.
abbrev pub next_text : Option DraftProcess → ℕ
next_text None = 0
next_text (Some begun) = length begun.texts

-- A process with one more text.
abbrev pub with_text : End → List ℕ → DraftProcess → DraftProcess
with_text input text begun = record begun { texts = begun.texts ++ (input, text) ∷ [] }

-- The draft with a text at an input: it is the last of its process's texts.
abbrev pub given : Draft → End → List ℕ → Draft
given draft input text = record draft {
  ports = bound draft.ports input (Given (next_text (slice_get draft.processes (process_at draft.ports input))));
  processes = updated (with_text input text) draft.processes (process_at draft.ports input);
}
