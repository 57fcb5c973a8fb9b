-- What is looked at of a process that a text stands for, by the numbers of those before it.
use Rattle.flow_limits.specs.declared.TheConstants.{PROCESS_LIMIT, SUBNET_DEPTH, SUBNET_PROCESS_LIMIT}
use Rattle.std.specs.Prelude.{◌≡◌, ℕ, ◌+◌, nat_le, ◌∷◌, ◌++◌, length, if◌then◌else◌, Bool, true, false, List, [], Option, Some, None, Ok, Err}
use Rattle.std.specs.declared.result.Result.{Result}
use Rattle.std.specs.List.{list_any}
use Rattle.std.specs.Str.{bytes_eq}
use Rattle.flow_net.specs.declared.fault.Many.TheVariants as many
use Rattle.flow_net.specs.declared.fault.PlanFault.TheVariants.{UnknownKind, TooMany}
use Rattle.flow_plan.specs.declared.kind.KindSpec.{KindSpec}
use Rattle.flow_parse.specs.declared.value.NetPart.{NetPart}
use Rattle.flow_parse.specs.declared.value.NetText.{NetText}
use Rattle.flow_flat.specs.declared.fault.ExpandFault.{ExpandFault}
use Rattle.flow_flat.specs.declared.fault.ExpandFault.TheVariants as faults
use Rattle.flow_flat.specs.Subnets.{Instance, within}
use Rattle.flow_flat.specs.Texts.{fails_if, outer_test, given_again}
use Rattle.flow_expand.specs.declared.stop.ExpandStop.{ExpandStop}
use Rattle.flow_expand.specs.declared.stop.ExpandStop.TheVariants.{Fault, NoMemory}
use Rattle.flow_expand.specs.declared.instances.Counts.{Counts}
use Rattle.flow_expand.specs.declared.way.Frame.{Frame}
use Rattle.flow_expand.specs.Places.{subnet_place}
use Rattle.flow_expand.specs.Ways.{part_at}

-- A process that is a subnet, behind so many.
abbrev pub subnet_tested : ℕ → List ℕ → NetPart → Result (Unit {0}) ExpandFault
subnet_tested subnets name part = if nat_le SUBNET_PROCESS_LIMIT subnets then Err (faults.Plan (TooMany many.Instances)) else outer_test name (given_again [] part.statements)

-- A process that is none, behind so many.
abbrev pub plain_tested : List KindSpec → ℕ → List ℕ → List ℕ → Result (Unit {0}) ExpandFault
plain_tested kinds plain name kind =
    if list_any (λ (k : KindSpec). bytes_eq k.name kind) kinds then fails_if (nat_le PROCESS_LIMIT plain) (faults.Plan (TooMany many.Processes)) else Err (faults.Plan (UnknownKind name kind))

-- A process that is none is put behind the others, or refused.
abbrev pub PutsPlain : List KindSpec → List ℕ → List ℕ → Counts → Counts → List (List ℕ × List ℕ) → List (List ℕ × List ℕ) → Result (Unit {0}) ExpandStop → Type 0
PutsPlain kinds name kind old new list list2 (Ok _) = (plain_tested kinds old.plain name kind ≡ Ok tt) × (new ≡ record { subnets = old.subnets; plain = old.plain + 1 }) × (list2 ≡ list ++ (name, kind) ∷ [])
PutsPlain kinds name kind old new list list2 (Err (Fault fault)) = plain_tested kinds old.plain name kind ≡ Err fault
PutsPlain kinds name kind old new list list2 (Err NoMemory) = Unit {0}

-- A process that is a subnet is put behind the others, or refused.
abbrev pub PutsSubnet : NetPart → List ℕ → List ℕ → Counts → Counts → List (List ℕ × List ℕ) → List (List ℕ × List ℕ) → Result (Unit {0}) ExpandStop → Type 0
PutsSubnet part name kind old new list list2 (Ok _) = (subnet_tested old.subnets name part ≡ Ok tt) × (new ≡ record { subnets = old.subnets + 1; plain = old.plain }) × (list2 ≡ list ++ (name, kind) ∷ [])
PutsSubnet part name kind old new list list2 (Err (Fault fault)) = subnet_tested old.subnets name part ≡ Err fault
PutsSubnet part name kind old new list list2 (Err NoMemory) = Unit {0}

-- The way goes on behind a process that is no subnet.
abbrev pub next_frame : Frame → Frame
next_frame f = record { subnet = f.subnet; prefix = f.prefix; next = f.next + 1 }

-- The way goes on inside a process that is a subnet.
abbrev pub child_frame : Frame → List ℕ → ℕ → Frame
child_frame f name s = record { subnet = Some s; prefix = within f.prefix name; next = 0 }

-- The answer is the fault of nesting too deep, at this name.
abbrev pub IsTooDeep : List ℕ → Result (Unit {0}) ExpandStop → Type 0
IsTooDeep name (Ok _) = ⊥
IsTooDeep name (Err (Fault fault)) = fault ≡ faults.Depth name
IsTooDeep name (Err NoMemory) = Unit {0}

-- What holds where the step was done.
abbrev pub IfPut : Result (Unit {0}) ExpandStop → Type 0 → Type 0
IfPut (Ok _) P = P
IfPut (Err stop) P = Unit {0}

-- A process of the first part of a way is put, and the way goes on behind it or inside it.
abbrev pub PutsAt : NetText → List KindSpec → Frame → List ℕ × List ℕ → Counts → Counts → List (List ℕ × List ℕ) → List (List ℕ × List ℕ) → List Frame → List Frame → Result (Unit {0}) ExpandStop → Option ℕ → Type 0
PutsAt text kinds f x old new list list2 way way2 result None = PutsPlain kinds (f.prefix ++ x.0) x.1 old new list list2 result × IfPut result (way2 ≡ way ++ next_frame f ∷ [])
PutsAt text kinds f x old new list list2 way way2 result (Some s) =
    PutsSubnet (part_at text (Some s)) (f.prefix ++ x.0) x.1 old new list list2 result × IfPut result (way2 ≡ (way ++ next_frame f ∷ []) ++ child_frame f x.0 s ∷ [])

-- A process that stands too deep is refused, and each other one is put.
abbrev pub PutsIf : Bool → List ℕ → Result (Unit {0}) ExpandStop → Type 0 → Type 0
PutsIf true name result P = IsTooDeep name result
PutsIf false name result P = P

-- The next process of a subnet is written out: itself, or where it is a subnet, what it stands for.
abbrev pub PutsNext : NetText → List KindSpec → Frame → List ℕ × List ℕ → Counts → Counts → List (List ℕ × List ℕ) → List (List ℕ × List ℕ) → List Frame → List Frame → Result (Unit {0}) ExpandStop → Type 0
PutsNext text kinds f x old new list list2 way way2 result = PutsIf (nat_le (SUBNET_DEPTH + 1) (length way)) (f.prefix ++ x.0) result (PutsAt text kinds f x old new list list2 way way2 result (subnet_place text x.1))

-- A process with its flat name and its kind alone.
abbrev pub outline : Instance → List ℕ × List ℕ
outline x = (x.name, x.kind)
