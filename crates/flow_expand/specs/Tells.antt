-- What the processes of a text tell a builder, each by its flat name and its kind.
use Rattle.std.specs.Prelude.{◌≡◌, ◌⊎◌, ℕ, List, [], ◌++◌, Option, Some, None, Ok, Err, is_some, if◌then◌else◌, codes}
use Rattle.std.specs.declared.result.Result.{Result}
use Rattle.std.specs.List.{filter_map, flat_map}
use Rattle.std.specs.Option.{option_map_or}
use Rattle.flow_parse.specs.declared.value.Statement.{Statement}
use Rattle.flow_parse.specs.declared.value.NetPart.{NetPart}
use Rattle.flow_parse.specs.declared.value.NetText.{NetText}
use Rattle.flow_net.specs.declared.fault.PlanFault.{PlanFault}
use Rattle.flow_net.specs.Drafts.{Draft}
use Rattle.flow_flat.specs.declared.fault.ExpandFault.{ExpandFault}
use Rattle.flow_flat.specs.declared.fault.ExpandFault.TheVariants as faults
use Rattle.flow_expand.specs.declared.stop.ExpandStop.{ExpandStop}
use Rattle.flow_expand.specs.declared.stop.ExpandStop.TheVariants.{Fault, NoMemory}
use Rattle.flow_flat.specs.Subnets.{subnet_called, statement_meant}
use Rattle.flow_flat.specs.Told.{HasShortTexts, empty, after_processes, AfterMeant}
use Rattle.flow_flat.specs.Firsts.{AllPass, FirstFails}
use Rattle.flow_flat.specs.Texts.{RecursionPasses, deep_instances}
use Rattle.flow_plan.specs.declared.kind.KindSpec.{KindSpec}

-- The statements of main, as they are meant.
abbrev pub main_meant : NetText → List (Result Statement ExpandFault)
main_meant text = filter_map (statement_meant text [] text.main) text.main.statements

-- The statements of the subnet that a process is, as they are meant.
abbrev pub own_meant : NetText → List ℕ × List ℕ → List (Result Statement ExpandFault)
own_meant text x = option_map_or (λ (part : NetPart). filter_map (statement_meant text (x.0 ++ codes ".") part) part.statements) (subnet_called text x.1) []

-- A process that is no subnet.
abbrev pub own_process : NetText → List ℕ × List ℕ → Option (List ℕ × List ℕ)
own_process text x = if is_some (subnet_called text x.1) then None else Some x

-- Each text that a subnet gives to a port has at most TEXT_LIMIT bytes.
abbrev pub HasShortSubnets : NetText → Type 0
HasShortSubnets text = (name : List ℕ) (part : NetPart) → subnet_called text name ≡ Some part → HasShortTexts part

-- What naming processes makes of a draft is what the calls answered, unless memory ran out.
abbrev pub Names : Result Draft PlanFault → Result (Unit {0}) ExpandStop → Draft → Type 0
Names answer (Ok _) new = answer ≡ Ok new
Names answer (Err (Fault (faults.Plan cause))) new = answer ≡ Err cause
Names answer (Err (Fault (faults.Recursive name))) new = ⊥
Names answer (Err (Fault (faults.Depth name))) new = ⊥
Names answer (Err (Fault (faults.OuterPort name port))) new = ⊥
Names answer (Err NoMemory) new = Unit {0}

-- Whether a subnet stands in itself, unless memory ran out.
abbrev pub Ends : NetText → Result (Unit {0}) ExpandStop → Type 0
Ends text (Ok _) = AllPass RecursionPasses (deep_instances text)
Ends text (Err (Fault fault)) = FirstFails RecursionPasses (deep_instances text) fault
Ends text (Err NoMemory) = Unit {0}

-- The statements of a text, main's own and then those of the subnets that the processes are.
abbrev pub meant_all : NetText → List (List ℕ × List ℕ) → List (Result Statement ExpandFault)
meant_all text list = main_meant text ++ flat_map (own_meant text) list

-- What a draft over these kinds becomes by these processes and then by the statements, or the fault, unless memory ran out.
abbrev pub Told : NetText → List KindSpec → List (List ℕ × List ℕ) → Result Draft ExpandStop → Type 0
Told text kinds list (Ok draft) = (named : Draft) × (after_processes (empty kinds) (filter_map (own_process text) list) ≡ Ok named) × AfterMeant named (meant_all text list) (Ok draft)
Told text kinds list (Err (Fault fault)) = ((cause : PlanFault) × (fault ≡ faults.Plan cause) × (after_processes (empty kinds) (filter_map (own_process text) list) ≡ Err cause))
    ⊎ ((named : Draft) × (after_processes (empty kinds) (filter_map (own_process text) list) ≡ Ok named) × AfterMeant named (meant_all text list) (Err fault))
Told text kinds list (Err NoMemory) = Unit {0}
