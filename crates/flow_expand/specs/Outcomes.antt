-- What a call answered, unless memory ran out.
use Rattle.std.specs.Prelude.{Ok, Err}
use Rattle.std.specs.declared.result.Result.{Result}
use Rattle.flow_net.specs.declared.fault.PlanStop.{PlanStop}
use Rattle.flow_net.specs.declared.fault.PlanStop.TheVariants as plans
use Rattle.flow_net.specs.Drafts.{Draft}
use Rattle.flow_flat.specs.declared.fault.ExpandFault.{ExpandFault}
use Rattle.flow_flat.specs.declared.fault.ExpandFault.TheVariants.{Plan}
use Rattle.flow_expand.specs.declared.stop.ExpandStop.{ExpandStop}
use Rattle.flow_expand.specs.declared.stop.ExpandStop.TheVariants.{Fault, NoMemory}

-- A builder's stop, as that of a whole text.
abbrev pub stop_of : PlanStop → ExpandStop
stop_of (plans.Fault fault) = Fault (Plan fault)
stop_of plans.NoMemory = NoMemory

-- What is said of the fault, where the stop is one.
abbrev pub IfFault : ExpandStop → (ExpandFault → Type 0) → Type 0
IfFault (Fault fault) P = P fault
IfFault NoMemory P = Unit {0}

-- The answer is this outcome, unless memory ran out.
abbrev pub Gives : {X : Type 0} → Result X ExpandStop → (Result X ExpandFault → Type 0) → Type 0
Gives (Ok x) P = P (Ok x)
Gives (Err (Fault fault)) P = P (Err fault)
Gives (Err NoMemory) P = Unit {0}

-- The draft that calls of a builder left, or the fault, is this outcome, unless memory ran out.
abbrev pub Leaves : Result (Unit {0}) ExpandStop → Draft → (Result Draft ExpandFault → Type 0) → Type 0
Leaves (Ok _) new P = P (Ok new)
Leaves (Err (Fault fault)) new P = P (Err fault)
Leaves (Err NoMemory) new P = Unit {0}
