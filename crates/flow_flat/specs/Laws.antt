-- What joins the calls of a builder to the plan of a text.
use Rattle.std.specs.Prelude.{◌≡◌, List, IsTrue}
use Rattle.std.specs.declared.result.Result.{Result}
use Rattle.flow_net.specs.declared.fault.PlanFault.{PlanFault}
use Rattle.flow_plan.specs.declared.kind.KindSpec.{KindSpec}
use Rattle.flow_plan.specs.Network.{Network}
use Rattle.flow_net.specs.Kinds.{is_table}
use Rattle.flow_parse.specs.declared.value.NetPart.{NetPart}
use Rattle.flow_flat.specs.Faults.{ComesTo}
use Rattle.flow_parse.specs.declared.value.NetText.{NetText}
use Rattle.flow_flat.specs.declared.fault.ExpandFault.{ExpandFault}
use Rattle.std.specs.Prelude.{ℕ, [], ◌++◌, Ok, Err, codes}
use Rattle.std.specs.List.{AllByRecursion, filter_map, flat_map}
use Rattle.std.specs.Option.{option_map_or}
use Rattle.flow_parse.specs.declared.value.Statement.{Statement}
use Rattle.flow_parse.specs.declared.fault.NetFault.{NetFault}
use Rattle.flow_parse.specs.Files.{Spells, Refused}
use Rattle.flow_parse.specs.Values.{IsInner}
use Rattle.flow_flat.specs.Subnets.{Instance, subnet_called, statement_meant}
use Rattle.flow_flat.specs.Texts.{TextComesTo, all_instances, all_statements, flat_of}
use Rattle.flow_flat.specs.Told.{HasShortTexts, IsFlat}

-- What a builder that is told a flat text comes to, its plan or a fault, the text comes to.
abbrev pub ToldIsSaid : Type 0
ToldIsSaid = (kinds : List KindSpec) (text : NetPart) (outcome : Result Network PlanFault) → IsTrue (is_table kinds) → HasShortTexts text → IsFlat kinds text outcome → ComesTo kinds text outcome

-- What a flat text comes to, a builder that is told it comes to.
abbrev pub SaidIsTold : Type 0
SaidIsTold = (kinds : List KindSpec) (text : NetPart) (outcome : Result Network PlanFault) → IsTrue (is_table kinds) → HasShortTexts text → ComesTo kinds text outcome → IsFlat kinds text outcome

-- A flat text comes to a plan or to a fault.
abbrev pub ComesToSome : Type 0
ComesToSome = (kinds : List KindSpec) (text : NetPart) → (outcome : Result Network PlanFault) × ComesTo kinds text outcome

-- A flat text comes to one plan or one fault at most, and not to both.
abbrev pub ComesToOne : Type 0
ComesToOne = (kinds : List KindSpec) (text : NetPart) (one other : Result Network PlanFault) → ComesTo kinds text one → ComesTo kinds text other → one ≡ other

-- A text comes to a plan or to a fault.
abbrev pub TextComesToSome : Type 0
TextComesToSome = (kinds : List KindSpec) (text : NetText) → (outcome : Result Network ExpandFault) × TextComesTo kinds text outcome

-- A text comes to one plan or one fault at most, and not to both.
abbrev pub TextComesToOne : Type 0
TextComesToOne = (kinds : List KindSpec) (text : NetText) (one other : Result Network ExpandFault) → TextComesTo kinds text one → TextComesTo kinds text other → one ≡ other

-- The statements of the subnet that a process is.
abbrev pub own_statements : NetText → Instance → List (Result Statement ExpandFault)
own_statements text x = option_map_or (λ (part : NetPart). filter_map (statement_meant text (x.name ++ codes ".") part) part.statements) (subnet_called text x.kind) []

-- The statements of a text are main's own, and then those of each of its subnet processes, in the order of the processes.
abbrev pub StandInOrder : Type 0
StandInOrder = (text : NetText) → all_statements text ≡ filter_map (statement_meant text [] text.main) text.main.statements ++ flat_map (own_statements text) (all_instances text)

-- A text without subnets is its own flat text.
abbrev pub IsOwnFlat : Type 0
IsOwnFlat = (text : NetText) → text.subnets ≡ [] → AllByRecursion IsInner text.main.statements → flat_of text ≡ text.main

-- What the bytes of a file come to over these kinds: the fault of a line, or else, for the value that they spell, the plan or the fault of its network.
abbrev pub FileComesToNetwork : List KindSpec → List ℕ → Result (Result Network ExpandFault) NetFault → Type 0
FileComesToNetwork kinds bytes (Ok outcome) = (text : NetText) × Spells bytes text × TextComesTo kinds text outcome
FileComesToNetwork kinds bytes (Err fault) = Refused bytes fault

-- Any bytes come to one of them.
abbrev pub FileNetworkIsSome : Type 0
FileNetworkIsSome = (kinds : List KindSpec) (bytes : List ℕ) → (outcome : Result (Result Network ExpandFault) NetFault) × FileComesToNetwork kinds bytes outcome

-- Any bytes come to one of them at most.
abbrev pub FileNetworkIsOne : Type 0
FileNetworkIsOne = (kinds : List KindSpec) (bytes : List ℕ) (one other : Result (Result Network ExpandFault) NetFault) → FileComesToNetwork kinds bytes one → FileComesToNetwork kinds bytes other → one ≡ other
