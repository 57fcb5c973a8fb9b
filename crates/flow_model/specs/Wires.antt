-- What stays as the plan says: which connection, or which text, is at each input and output, the automatic ones too; and whose the packets of a connection are.
-- (This project's own.)
use Rattle.std.specs.Prelude.{◌≡◌, ℕ, List, map, Option, Some, slice_get}
use Rattle.flow_component.specs.Laws.{Rules}
use Rattle.flow_model.specs.States.{Input, Process, Put, State}
use Rattle.flow_model.specs.Order.{output_of}
use Rattle.flow_model.specs.Schedules.{Journal, Leads}
use Rattle.flow_model.specs.Plans.{start_of, StartsWell}
use Rattle.flow_plan.specs.Network.{Network as Plan}

-- What is at the inputs of a process, and at its outputs.
pub record Wires : Type 0 where
  pub inputs : List Input
  pub outputs : List (Option ℕ)
  pub signal : Option ℕ

-- What stands at the inputs and outputs of a process.
abbrev pub wires : {K : Type 0} → Process K → Wires
wires x = record { inputs = x.inputs; outputs = x.outputs; signal = x.signal }

-- The inputs and outputs of all processes are as they were.
abbrev pub SameWires : {K : Type 0} → State K → State K → Type 0
SameWires old new = map wires new.kept.processes ≡ map wires old.kept.processes

-- Each packet of a connection was put there by an output that leads there.
abbrev pub PutBySenders : {K : Type 0} → State K → Type 0
PutBySenders s = (c k : ℕ) (put : Put) → slice_get (s.past.put c) k ≡ Some put → output_of put.sender.output (slice_get s.kept.processes put.sender.process) ≡ Some c

-- So it is after every schedule from a start.
abbrev pub KeepsWires : {K : Type 0} → Rules K → Type 0
KeepsWires {K} rules =
    (plan : Plan) (components : List K) (journal : Journal) (s : State K) → StartsWell rules plan components → Leads rules (start_of plan components) journal s → SameWires (start_of plan components) s × PutBySenders s
