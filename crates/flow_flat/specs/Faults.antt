-- What a flat text is refused for.
use Rattle.flow_limits.specs.declared.TheConstants.{CAPACITY_SUM_LIMIT, CONNECTION_LIMIT, PROCESS_LIMIT, SENDER_LIMIT}
use Rattle.std.specs.Prelude.{◌≡◌, ◌⊎◌, ℕ, ◌==◌, ◌||◌, nat_le, not, if◌then◌else◌, Bool, false, List, [], length, Option, Some, None, Ok, Err, is_some, slice_get, position}
use Rattle.std.specs.Option.{option_map_or}
use Rattle.std.specs.declared.result.Result.{Result}
use Rattle.std.specs.List.{list_any, range_with_len, sum_by}
use Rattle.flow_net.specs.declared.draft.End.{End}
use Rattle.flow_net.specs.declared.fault.Many.TheVariants as many
use Rattle.flow_net.specs.declared.fault.PlanFault.{PlanFault}
use Rattle.flow_net.specs.declared.fault.PlanFault.TheVariants.{SameName, UnknownKind, NeedsInitial, PortUnknown, PortTaken, BadOption, PortMissing, ElementGap, TooMany}
use Rattle.flow_plan.specs.declared.kind.KindSpec.{KindSpec}
use Rattle.flow_plan.specs.declared.kind.PortRef.{PortRef}
use Rattle.flow_plan.specs.declared.plan.Connection.{Connection}
use Rattle.flow_plan.specs.Network.{Network, is_stream}
use Rattle.flow_net.specs.Drafts.{◌>>=◌, refused_if}
use Rattle.flow_net.specs.Calls.{kind_named, allowed_capacity, same_capacity}
use Rattle.flow_net.specs.Kinds.{takes_texts}
use Rattle.flow_plan.specs.Texts.{IsOfClass}
use Rattle.flow_plan.specs.Templates.{TemplateGiven, FirstUnfit, TemplatesFit}
use Rattle.flow_net.specs.Finishes.{unfit_fault}
use Rattle.flow_parse.specs.declared.value.Statement.{Statement}
use Rattle.flow_parse.specs.declared.value.Statement.TheVariants.{Connect, Initial, InPort, OutPort}
use Rattle.flow_parse.specs.declared.value.NetPart.{NetPart}
use Rattle.flow_flat.specs.Firsts.{AllPass, FirstFails}
use Rattle.flow_flat.specs.Names.{PortAt, Join, process_called, text_ports, join_ends, text_end, joins_of, texts_of}
use Rattle.flow_flat.specs.Plans.{same_element, joins_into, receivers, capacity_given, ends_of, size_of, plan_of}

-- A process may follow those before it: its name is new, its kind is in the table, and there are fewer than PROCESS_LIMIT.
abbrev pub process_test : List KindSpec → List (List ℕ × List ℕ) → List ℕ × List ℕ → Result (Unit {0}) PlanFault
process_test kinds before x = do
  new ← refused_if (is_some (process_called before x.0)) (SameName x.0)
  known ← refused_if (not (is_some (kind_named kinds x.1))) (UnknownKind x.0 x.1)
  refused_if (nat_le PROCESS_LIMIT (length before)) (TooMany many.Processes)

-- Some connection begins at the element.
abbrev pub sends : List Join → End → Bool
sends joins end = list_any (λ (j : Join). same_element j.out end) joins

-- Some connection leads to the element.
abbrev pub receives : List Join → End → Bool
receives joins end = list_any (λ (j : Join). same_element j.into end) joins

-- Some text is given to the element.
abbrev pub has_text : List (End × List ℕ) → End → Bool
has_text texts end = list_any (λ (t : End × List ℕ). same_element t.0 end) texts

-- The class of an element's port is Stream.
abbrev pub is_stream_end : List PortAt → End → Bool
is_stream_end ports end = option_map_or (λ (port : PortAt). is_stream port.spec.class) (slice_get ports end.port) false

-- There are CONNECTION_LIMIT connections and this would be one more, or the connection has its SENDER_LIMIT senders.
abbrev pub is_full : List Join → End → Bool
is_full joins into = if receives joins into then nat_le SENDER_LIMIT (length (joins_into joins into)) else nat_le CONNECTION_LIMIT (length (receivers joins))

-- Two elements may be joined, after these connect statements and texts.
abbrev pub join_test : List PortAt → List Join → List (End × List ℕ) → List ℕ → PortRef → Option ℕ → List ℕ → PortRef → End × End → Result (Unit {0}) PlanFault
join_test ports joins texts from out capacity to into ends = do
  stream ← refused_if (not (is_stream_end ports ends.1)) (NeedsInitial to into)
  allowed ← allowed_capacity capacity
  unsent ← refused_if (sends joins ends.0) (PortTaken from out)
  ungiven ← refused_if (has_text texts ends.1) (PortTaken to into)
  agreed ← same_capacity (capacity_given (joins_into joins ends.1)) capacity
  refused_if (is_full joins ends.1) (TooMany many.Connections)

-- The input takes texts.
abbrev pub is_textual : List PortAt → End → Bool
is_textual ports end = option_map_or (λ (port : PortAt). takes_texts port.spec) (slice_get ports end.port) false

-- The input that a text is for: it is there, takes texts, and takes nothing yet.
abbrev pub text_test : List (List ℕ × List ℕ) → List PortAt → List Join → List (End × List ℕ) → List ℕ → PortRef → Result End PlanFault
text_test processes ports joins texts to into = do
  input ← text_end processes ports to into
  textual ← refused_if (not (is_textual ports input)) (PortUnknown to into)
  free ← refused_if (receives joins input || has_text texts input) (PortTaken to into)
  Ok input

-- A text is of the class of its port.
abbrev pub FitsAt : Option PortAt → List ℕ → Type 0
FitsAt None text = ⊥
FitsAt (Some port) text = IsOfClass port.spec.class text

-- Whether an input takes a text, after these connect statements and texts.
abbrev pub TextTest : List (List ℕ × List ℕ) → List PortAt → List Join → List (End × List ℕ) → List ℕ → List ℕ → PortRef → Result (Unit {0}) PlanFault → Type 0
TextTest processes ports joins texts text to into (Ok _) = (input : End) × (text_test processes ports joins texts to into ≡ Ok input) × FitsAt (slice_get ports input.port) text
TextTest processes ports joins texts text to into (Err fault) =
    (text_test processes ports joins texts to into ≡ Err fault) ⊎ ((fault ≡ BadOption to into) × (input : End) × (text_test processes ports joins texts to into ≡ Ok input) × (FitsAt (slice_get ports input.port) text → ⊥))

-- Whether a statement may follow those before it.
abbrev pub StatementTest : List (List ℕ × List ℕ) → List PortAt → List Statement → Statement → Result (Unit {0}) PlanFault → Type 0
StatementTest processes ports before (Connect from out capacity to into) outcome =
    (join_ends processes ports from out to into >>= join_test ports (joins_of processes ports before) (texts_of processes ports before) from out capacity to into) ≡ outcome
StatementTest processes ports before (Initial text to into) outcome = TextTest processes ports (joins_of processes ports before) (texts_of processes ports before) text to into outcome
StatementTest processes ports before (InPort outer to into) outcome = outcome ≡ Ok tt
StatementTest processes ports before (OutPort from out outer) outcome = outcome ≡ Ok tt

-- The element is among those.
abbrev pub is_named : List End → End → Bool
is_named ends end = list_any (λ (e : End). same_element e end) ends

-- The lowest element of a port that no statement names, below one that is named.
abbrev pub gap : List End → ℕ → Option ℕ
gap ends g = position (λ e. not (is_named ends (record { port = g; element = e }))) (range_with_len 0 (size_of ends g))

-- The fault of a gap, where there is one.
abbrev pub gap_test : List ℕ → List ℕ → Option ℕ → Result (Unit {0}) PlanFault
gap_test process port None = Ok tt
gap_test process port (Some e) = Err (ElementGap process port e)

-- A port is bound as it has to be, where statements name these elements: a needed one has an element, and no element is left out.
abbrev pub port_test : List (List ℕ × List ℕ) → List End → List PortAt → PortAt → Result (Unit {0}) PlanFault
port_test processes ends before port =
    let process = option_map_or (λ (x : List ℕ × List ℕ). x.0) (slice_get processes port.process) [] in
    let g = length before in
    if size_of ends g == 0 then refused_if port.spec.needed (PortMissing process port.spec.name) else gap_test process port.spec.name (gap ends g)

-- The capacities of all connections come to 65,536 at most.
abbrev pub sum_test : List Connection → Result (Unit {0}) PlanFault
sum_test connections = refused_if (not (nat_le (sum_by (λ (c : Connection). c.capacity) connections) CAPACITY_SUM_LIMIT)) (TooMany many.CapacitySum)

-- What is looked at of a flat text: its processes one by one, its statements, its ports, and the sum.
abbrev pub ProcessPasses : List KindSpec → List (List ℕ × List ℕ) → List ℕ × List ℕ → Result (Unit {0}) PlanFault → Type 0
ProcessPasses kinds before x outcome = process_test kinds before x ≡ outcome

-- What comes of a statement, behind those before it.
abbrev pub StatementPasses : List KindSpec → NetPart → List Statement → Statement → Result (Unit {0}) PlanFault → Type 0
StatementPasses kinds text before s outcome = StatementTest text.processes (text_ports kinds text.processes) before s outcome

-- All elements that the statements of a text name.
abbrev pub text_ends : List KindSpec → NetPart → List End
text_ends kinds text =
    let ports = text_ports kinds text.processes in
    ends_of (joins_of text.processes ports text.statements) (texts_of text.processes ports text.statements)

-- What comes of a port, once all statements are there.
abbrev pub PortPasses : List KindSpec → NetPart → List PortAt → PortAt → Result (Unit {0}) PlanFault → Type 0
PortPasses kinds text before port outcome = port_test text.processes (text_ends kinds text) before port ≡ outcome

-- A flat text has this fault: the first of its processes, or of its statements where no process has one, or of its ports, or the sum, or of a template.
pub data HasFault (kinds : List KindSpec) (text : NetPart) (fault : PlanFault) : Type 0 where
  of_process : FirstFails (ProcessPasses kinds) text.processes fault → HasFault kinds text fault
  of_statement : AllPass (ProcessPasses kinds) text.processes → FirstFails (StatementPasses kinds text) text.statements fault → HasFault kinds text fault
  of_port : AllPass (ProcessPasses kinds) text.processes → AllPass (StatementPasses kinds text) text.statements → FirstFails (PortPasses kinds text) (text_ports kinds text.processes) fault → HasFault kinds text fault
  of_sum : AllPass (ProcessPasses kinds) text.processes → AllPass (StatementPasses kinds text) text.statements → AllPass (PortPasses kinds text) (text_ports kinds text.processes)
      → sum_test (plan_of kinds text).connections ≡ Err fault → HasFault kinds text fault
  of_template : AllPass (ProcessPasses kinds) text.processes → AllPass (StatementPasses kinds text) text.statements → AllPass (PortPasses kinds text) (text_ports kinds text.processes)
      → sum_test (plan_of kinds text).connections ≡ Ok tt → (template : TemplateGiven) → FirstUnfit (plan_of kinds text) template → fault ≡ unfit_fault template → HasFault kinds text fault

-- A flat text has no fault, and is this plan.
pub record HasPlan (kinds : List KindSpec) (text : NetPart) (plan : Network) : Type 0 where
  pub processes : AllPass (ProcessPasses kinds) text.processes
  pub statements : AllPass (StatementPasses kinds text) text.statements
  pub ports : AllPass (PortPasses kinds text) (text_ports kinds text.processes)
  pub sum : sum_test (plan_of kinds text).connections ≡ Ok tt
  pub templates : TemplatesFit (plan_of kinds text)
  pub is : plan ≡ plan_of kinds text

-- What a flat text comes to: its plan, or the first fault.
abbrev pub ComesTo : List KindSpec → NetPart → Result Network PlanFault → Type 0
ComesTo kinds text (Ok plan) = HasPlan kinds text plan
ComesTo kinds text (Err fault) = HasFault kinds text fault
