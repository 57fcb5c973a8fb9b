-- What is wrong with a draft that is to be a plan, and the plan that it is.
use Rattle.flow_limits.specs.declared.TheConstants.{CAPACITY_SUM_LIMIT, DEFAULT_CAPACITY}
use Rattle.std.specs.Prelude.{◌≡◌, ◌⊎◌, ◌++◌, ℕ, ◌+◌, ◌-◌, ◌==◌, nat_le, if◌then◌else◌, Bool, true, false, List, [], ◌∷◌, map, take, length, Option, Some, None, Ok, Err, slice_get, position, unwrap_or}
use Rattle.std.specs.declared.result.Result.{Result}
use Rattle.std.specs.List.{All, sum_by}
use Rattle.std.specs.Option.{option_map_or}
use Rattle.flow_net.specs.declared.draft.End.{End}
use Rattle.flow_net.specs.declared.draft.Binding.{Binding}
use Rattle.flow_net.specs.declared.draft.DraftPort.{DraftPort}
use Rattle.flow_net.specs.declared.draft.DraftProcess.{DraftProcess}
use Rattle.flow_net.specs.declared.draft.Link.{Link}
use Rattle.flow_net.specs.declared.fault.Many.TheVariants as many
use Rattle.flow_net.specs.declared.fault.PlanFault.{PlanFault}
use Rattle.flow_net.specs.declared.fault.PlanFault.TheVariants.{BadOption, PortMissing, ElementGap, TooMany}
use Rattle.flow_net.specs.declared.fault.PlanStop.{PlanStop}
use Rattle.flow_net.specs.declared.fault.PlanStop.TheVariants.{Fault, NoMemory}
use Rattle.flow_plan.specs.declared.plan.Sender.{Sender}
use Rattle.flow_plan.specs.declared.plan.Process.{Process}
use Rattle.flow_plan.specs.declared.plan.Connection.{Connection}
use Rattle.flow_plan.specs.declared.plan.PortRow.{PortRow}
use Rattle.flow_plan.specs.declared.plan.PortTable.{PortTable}
use Rattle.flow_plan.specs.Network.{Network, is_stream}
use Rattle.flow_plan.specs.Templates.{TemplateGiven, Fits, FirstUnfit, TemplatesFit, template_of, templates_in, templates_among}
use Rattle.flow_net.specs.Drafts.{Draft, ◌>>=◌, refused_if, is_free, is_side, is_stream_at}
use Rattle.flow_net.specs.Calls.{process_at}

-- One more than the place of the last element that is bound.
abbrev pub size_of : List Binding → ℕ
size_of [] = 0
size_of (b ∷ bs) = if size_of bs == 0 then (if is_free b then 0 else 1) else size_of bs + 1

-- The name of a process.
abbrev pub name_of : List DraftProcess → ℕ → List ℕ
name_of processes p = option_map_or (λ (begun : DraftProcess). begun.name) (slice_get processes p) []

-- The lowest element that isn't bound, among those below one that is.
abbrev pub gap_fault : List ℕ → DraftPort → Option ℕ → Result (Unit {0}) PlanFault
gap_fault name port None = Ok tt
gap_fault name port (Some e) = Err (ElementGap name port.spec.name e)

-- What is wrong with a port: it is needed and nothing is bound to it, or an element below a bound one isn't bound.
abbrev pub port_fault : List ℕ → DraftPort → Result (Unit {0}) PlanFault
port_fault name port =
    if size_of port.elements == 0 then refused_if port.spec.needed (PortMissing name port.spec.name) else gap_fault name port (position is_free (take (size_of port.elements) port.elements))

-- The first port with a fault, in the order of the processes and of their tables.
abbrev pub first_fault : List DraftProcess → List DraftPort → Result (Unit {0}) PlanFault
first_fault processes [] = Ok tt
first_fault processes (port ∷ ports) = port_fault (name_of processes port.process) port >>= λ none. first_fault processes ports

-- The capacity of a connection, which is DEFAULT_CAPACITY where none was given.
abbrev pub capacity_of : Link → ℕ
capacity_of link = unwrap_or link.capacity DEFAULT_CAPACITY

-- The capacities of all connections come to 65,536 at most.
abbrev pub sum_fault : List Link → Result (Unit {0}) PlanFault
sum_fault links = refused_if (if nat_le (sum_by capacity_of links) CAPACITY_SUM_LIMIT then false else true) (TooMany many.CapacitySum)

-- The number of elements of a port: of an array up to the last that is bound.
abbrev pub elements_in : DraftPort → ℕ
elements_in port = if port.spec.array then size_of port.elements else 1

-- The number of elements of a port that have numbers: an option port has none.
abbrev pub count_of : DraftPort → ℕ
count_of port = if is_stream port.spec.class then elements_in port else 0

-- The same, of a port on this side of this process, and of another 0.
abbrev pub counted : ℕ → Bool → DraftPort → ℕ
counted process input port = if is_side process input port then count_of port else 0

-- The side of an element's port.
abbrev pub side_at : List DraftPort → End → Bool
side_at ports end = option_map_or (λ (port : DraftPort). port.input) (slice_get ports end.port) false

-- The number of an element: the elements of the ports before its own on this side of its process, and the elements before it in its own.
abbrev pub number_of : List DraftPort → End → ℕ
number_of ports end = sum_by (counted (process_at ports end) (side_at ports end)) (take end.port ports) + end.element

-- The number of inputs, or of outputs, of a process, the automatic one among them.
abbrev pub total_of : List DraftPort → ℕ → Bool → ℕ
total_of ports process input = sum_by (counted process input) ports

-- The output at an end.
abbrev pub sender_of : List DraftPort → End → Sender
sender_of ports end = record { process = process_at ports end; output = number_of ports end }

-- The connection that a link becomes.
abbrev pub connection_of : List DraftPort → Link → Connection
connection_of ports link = record {
  receiver = process_at ports link.into;
  input = number_of ports link.into;
  capacity = capacity_of link;
  senders = map (sender_of ports) link.senders;
}

-- The place of an element's port in the table of its kind.
abbrev pub place_at : List DraftPort → End → ℕ
place_at ports end = option_map_or (λ (port : DraftPort). port.place) (slice_get ports end.port) 0

-- The texts at option ports, by the places of the ports, in the order of the calls.
abbrev pub options_of : List DraftPort → List (End × List ℕ) → List (ℕ × List ℕ)
options_of ports [] = []
options_of ports (x ∷ xs) = if is_stream_at ports x.0 then options_of ports xs else (place_at ports x.0, x.1) ∷ options_of ports xs

-- The texts at stream ports, by their input numbers, in the order of the calls.
abbrev pub initials_of : List DraftPort → List (End × List ℕ) → List (ℕ × List ℕ)
initials_of ports [] = []
initials_of ports (x ∷ xs) = if is_stream_at ports x.0 then (number_of ports x.0, x.1) ∷ initials_of ports xs else initials_of ports xs

-- The process that a begun one becomes: its automatic ports are no inputs and outputs of its own.
abbrev pub process_of : List DraftPort → DraftProcess → Process
process_of ports begun = record {
  name = begun.name;
  kind = begun.kind;
  options = options_of ports begun.texts;
  initials = initials_of ports begun.texts;
  inputs = total_of ports begun.number true - 1;
  outputs = total_of ports begun.number false - 1;
}

-- A port with its number of elements.
abbrev pub row_of : DraftPort → PortRow
row_of port = record { spec = port.spec; elements = elements_in port }

-- The ports on one side of a process, in order.
abbrev pub rows_of : List DraftPort → ℕ → Bool → List PortRow
rows_of [] process input = []
rows_of (port ∷ ports) process input = if is_side process input port then row_of port ∷ rows_of ports process input else rows_of ports process input

-- A list without its last element.
abbrev pub front : {X : Type 0} → List X → List X
front xs = take (length xs - 1) xs

-- The ports of a process, without the automatic ones.
abbrev pub table_of : List DraftPort → DraftProcess → PortTable
table_of ports begun = record { inputs = front (rows_of ports begun.number true); outputs = front (rows_of ports begun.number false) }

-- The plan that a draft is.
abbrev pub plan_of : Draft → Network
plan_of draft = record {
  processes = map (process_of draft.ports) draft.processes;
  connections = map (connection_of draft.ports) draft.links;
  tables = map (table_of draft.ports) draft.processes;
}

-- The first fault of a whole draft.
abbrev pub draft_fault : Draft → Result (Unit {0}) PlanFault
draft_fault draft = do
  ports ← first_fault draft.processes draft.ports
  sum_fault draft.links

-- The fault of a text that isn't a template for its pattern.
abbrev pub unfit_fault : TemplateGiven → PlanFault
unfit_fault template = BadOption template.process (record { name = template.port; element = None })

-- Each of these is one for its pattern, or this is the fault of the first that isn't.
abbrev pub Checked : List TemplateGiven → Result (Unit {0}) PlanStop → Type 0
Checked given (Ok _) = All Fits given
Checked given (Err (Fault fault)) = (before behind : List TemplateGiven) × (template : TemplateGiven) × (given ≡ before ++ template ∷ behind) × All Fits before × (Fits template → ⊥) × (fault ≡ unfit_fault template)
Checked given (Err NoMemory) = Unit {0}

-- So of the port in a row at this place, of the ports in rows, and of processes with their tables.
abbrev pub RowHasTemplate : Process → ℕ → PortRow → Result (Unit {0}) PlanStop → Type 0
RowHasTemplate process place row outcome = Checked (template_of process place row.spec.name row.spec.class) outcome

abbrev pub RowsHaveTemplates : Process → List PortRow → Result (Unit {0}) PlanStop → Type 0
RowsHaveTemplates process rows outcome = Checked (templates_in process 0 rows) outcome

abbrev pub HaveTemplates : List Process → List PortTable → Result (Unit {0}) PlanStop → Type 0
HaveTemplates processes tables outcome = Checked (templates_among processes tables) outcome

-- What finishing gives: the first fault of the whole draft; else that of the first template that isn't one for its pattern; else the plan.
abbrev pub FinishesTo : Draft → Result Network PlanFault → Type 0
FinishesTo draft (Ok plan) = (draft_fault draft ≡ Ok tt) × TemplatesFit (plan_of draft) × (plan ≡ plan_of draft)
FinishesTo draft (Err fault) = (draft_fault draft ≡ Err fault) ⊎ ((draft_fault draft ≡ Ok tt) × (template : TemplateGiven) × FirstUnfit (plan_of draft) template × (fault ≡ unfit_fault template))

-- The same, unless memory runs out.
abbrev pub Finishes : Draft → Result Network PlanStop → Type 0
Finishes draft (Ok plan) = FinishesTo draft (Ok plan)
Finishes draft (Err (Fault fault)) = FinishesTo draft (Err fault)
Finishes draft (Err NoMemory) = Unit {0}
