-- The plan of a text with subnets, and what it is refused for.
use Rattle.flow_limits.specs.declared.TheConstants.{PROCESS_LIMIT, SUBNET_DEPTH, SUBNET_PROCESS_LIMIT}
use Rattle.std.specs.Prelude.{◌≡◌, ℕ, ◌+◌, nat_le, not, if◌then◌else◌, Bool, false, List, [], ◌∷◌, ◌++◌, length, Option, Some, None, Ok, Err, is_some, count_by}
use Rattle.std.specs.declared.result.Result.{Result}
use Rattle.std.specs.List.{filter_map, list_any}
use Rattle.std.specs.Str.{bytes_eq}
use Rattle.flow_net.specs.declared.fault.Many.TheVariants as many
use Rattle.flow_net.specs.declared.fault.PlanFault.{PlanFault}
use Rattle.flow_net.specs.declared.fault.PlanFault.TheVariants.{UnknownKind, TooMany}
use Rattle.flow_plan.specs.declared.kind.KindSpec.{KindSpec}
use Rattle.flow_plan.specs.Network.{Network}
use Rattle.flow_net.specs.Calls.{kind_named}
use Rattle.flow_net.specs.Finishes.{unfit_fault}
use Rattle.flow_plan.specs.Templates.{TemplateGiven, FirstUnfit, TemplatesFit}
use Rattle.flow_parse.specs.declared.value.Statement.{Statement}
use Rattle.flow_parse.specs.declared.value.Statement.TheVariants.{InPort, OutPort}
use Rattle.flow_parse.specs.declared.value.NetPart.{NetPart}
use Rattle.flow_parse.specs.declared.value.NetText.{NetText}
use Rattle.flow_flat.specs.declared.fault.ExpandFault.{ExpandFault}
use Rattle.flow_flat.specs.declared.fault.ExpandFault.TheVariants as faults
use Rattle.flow_flat.specs.Firsts.{AllPass, FirstFails}
use Rattle.flow_flat.specs.Faults.{StatementPasses, PortPasses, sum_test}
use Rattle.flow_flat.specs.Names.{text_ports}
use Rattle.flow_flat.specs.Plans.{plan_of}
use Rattle.flow_flat.specs.Subnets.{Instance, subnet_called, instances, levels, statements_in}

-- Fault where the test holds.
abbrev pub fails_if : {F : Type 0} → Bool → F → Result (Unit {0}) F
fails_if test fault = if test then Err fault else Ok tt

-- A process of a subnet that the process stands in already.
abbrev pub RecursionPasses : List Instance → Instance → Result (Unit {0}) ExpandFault → Type 0
RecursionPasses before x outcome = fails_if (list_any (bytes_eq x.kind) x.inside) (faults.Recursive x.kind) ≡ outcome

-- The processes so far down that a subnet inside itself is met.
abbrev pub deep_instances : NetText → List Instance
deep_instances text = instances text (length text.subnets + 1) [] [] text.main

-- The processes, to the depth at which they are refused.
abbrev pub all_instances : NetText → List Instance
all_instances text = instances text levels [] [] text.main

-- Its kind is a subnet of the text.
abbrev pub is_subnet : NetText → Instance → Bool
is_subnet text x = is_some (subnet_called text x.kind)

-- The outer name of a statement that gives it again, on its side.
abbrev pub is_given_by : Statement → Statement → Bool
is_given_by (InPort outer to into) (InPort other q r) = bytes_eq outer other
is_given_by (OutPort from out outer) (OutPort q r other) = bytes_eq outer other
is_given_by _ _ = false

-- The outer name that a statement gives.
abbrev pub outer_name : Statement → List ℕ
outer_name (InPort outer to into) = outer
outer_name (OutPort from out outer) = outer
outer_name _ = []

-- The first outer name that is given a second time.
abbrev pub given_again : List Statement → List Statement → Option (List ℕ)
given_again before [] = None
given_again before (s ∷ ss) = if list_any (is_given_by s) before then Some (outer_name s) else given_again (before ++ s ∷ []) ss

-- The fault of an outer name that is given twice.
abbrev pub outer_test : List ℕ → Option (List ℕ) → Result (Unit {0}) ExpandFault
outer_test process None = Ok tt
outer_test process (Some name) = Err (faults.OuterPort process (record { name = name; element = None }))

-- A process that is a subnet: there are fewer than SUBNET_PROCESS_LIMIT before it, and its subnet gives no outer name twice.
abbrev pub subnet_test : NetText → List Instance → Instance → NetPart → Result (Unit {0}) ExpandFault
subnet_test text before x part =
    if nat_le SUBNET_PROCESS_LIMIT (count_by (is_subnet text) before) then Err (faults.Plan (TooMany many.Instances)) else outer_test x.name (given_again [] part.statements)

-- A process that is none: its kind is in the table, and there are fewer than PROCESS_LIMIT before it.
abbrev pub plain_test : NetText → List KindSpec → List Instance → Instance → Result (Unit {0}) ExpandFault
plain_test text kinds before x =
    if is_some (kind_named kinds x.kind) then fails_if (nat_le PROCESS_LIMIT (count_by (λ y. not (is_subnet text y)) before)) (faults.Plan (TooMany many.Processes))
    else Err (faults.Plan (UnknownKind x.name x.kind))

-- What comes of a process, behind those before it.
abbrev pub instance_test : NetText → List KindSpec → List Instance → Instance → Result (Unit {0}) ExpandFault
instance_test text kinds before x = if nat_le (SUBNET_DEPTH + 1) (length x.inside) then Err (faults.Depth x.name)
    else elim (subnet_called text x.kind) [ None ↦ plain_test text kinds before x | Some part ↦ subnet_test text before x part ]

-- The same as a relation.
abbrev pub InstancePasses : NetText → List KindSpec → List Instance → Instance → Result (Unit {0}) ExpandFault → Type 0
InstancePasses text kinds before x outcome = instance_test text kinds before x ≡ outcome

-- A process of the flat text, where its kind is no subnet.
abbrev pub plain_process : NetText → Instance → Option (List ℕ × List ℕ)
plain_process text x = if is_subnet text x then None else Some (x.name, x.kind)

-- The statement, where it could be said.
abbrev pub said : Result Statement ExpandFault → Option Statement
said (Ok s) = Some s
said (Err fault) = None

-- The statements of the flat text, or why one of them has no meaning, in order.
abbrev pub all_statements : NetText → List (Result Statement ExpandFault)
all_statements text = statements_in text (levels + 1) [] text.main

-- The flat text of a value.
abbrev pub flat_of : NetText → NetPart
flat_of text = record { processes = filter_map (plain_process text) (all_instances text); statements = filter_map said (all_statements text) }

-- A fault of the flat text is one of the text.
abbrev pub AsPlan : (Result (Unit {0}) PlanFault → Type 0) → Result (Unit {0}) ExpandFault → Type 0
AsPlan P (Ok u) = P (Ok u)
AsPlan P (Err (faults.Plan fault)) = P (Err fault)
AsPlan P (Err (faults.Recursive name)) = ⊥
AsPlan P (Err (faults.Depth name)) = ⊥
AsPlan P (Err (faults.OuterPort name port)) = ⊥

-- What comes of a statement of the flat text, behind those before it.
abbrev pub MeaningPasses : List KindSpec → NetText → List (Result Statement ExpandFault) → Result Statement ExpandFault → Result (Unit {0}) ExpandFault → Type 0
MeaningPasses kinds text before (Ok s) outcome = AsPlan (StatementPasses kinds (flat_of text) (filter_map said before) s) outcome
MeaningPasses kinds text before (Err fault) outcome = outcome ≡ Err fault

-- The processes of a text can all be written out.
pub record CanBeWrittenOut (kinds : List KindSpec) (text : NetText) : Type 0 where
  pub ends : AllPass RecursionPasses (deep_instances text)
  pub processes : AllPass (InstancePasses text kinds) (all_instances text)

-- So can its statements, and they follow one another.
pub record IsSaid (kinds : List KindSpec) (text : NetText) : Type 0 where
  pub processes : CanBeWrittenOut kinds text
  pub statements : AllPass (MeaningPasses kinds text) (all_statements text)

-- A text has this fault: the first of its subnets, else of its processes, its statements, its ports, the sum, or its templates.
pub data HasTextFault (kinds : List KindSpec) (text : NetText) (fault : ExpandFault) : Type 0 where
  of_subnet : FirstFails RecursionPasses (deep_instances text) fault → HasTextFault kinds text fault
  of_process : AllPass RecursionPasses (deep_instances text) → FirstFails (InstancePasses text kinds) (all_instances text) fault → HasTextFault kinds text fault
  of_statement : CanBeWrittenOut kinds text → FirstFails (MeaningPasses kinds text) (all_statements text) fault → HasTextFault kinds text fault
  of_port : IsSaid kinds text → (cause : PlanFault) → fault ≡ faults.Plan cause → FirstFails (PortPasses kinds (flat_of text)) (text_ports kinds (flat_of text).processes) cause → HasTextFault kinds text fault
  of_sum : IsSaid kinds text → AllPass (PortPasses kinds (flat_of text)) (text_ports kinds (flat_of text).processes)
      → (cause : PlanFault) → fault ≡ faults.Plan cause → sum_test (plan_of kinds (flat_of text)).connections ≡ Err cause → HasTextFault kinds text fault
  of_template : IsSaid kinds text → AllPass (PortPasses kinds (flat_of text)) (text_ports kinds (flat_of text).processes) → sum_test (plan_of kinds (flat_of text)).connections ≡ Ok tt
      → (template : TemplateGiven) → fault ≡ faults.Plan (unfit_fault template) → FirstUnfit (plan_of kinds (flat_of text)) template → HasTextFault kinds text fault

-- A text has no fault, and is this plan.
pub record HasTextPlan (kinds : List KindSpec) (text : NetText) (plan : Network) : Type 0 where
  pub said : IsSaid kinds text
  pub ports : AllPass (PortPasses kinds (flat_of text)) (text_ports kinds (flat_of text).processes)
  pub sum : sum_test (plan_of kinds (flat_of text)).connections ≡ Ok tt
  pub templates : TemplatesFit (plan_of kinds (flat_of text))
  pub is : plan ≡ plan_of kinds (flat_of text)

-- What a text comes to: its plan, or its first fault.
abbrev pub TextComesTo : List KindSpec → NetText → Result Network ExpandFault → Type 0
TextComesTo kinds text (Ok plan) = HasTextPlan kinds text plan
TextComesTo kinds text (Err fault) = HasTextFault kinds text fault
