-- Networks whose processes are of the kinds of a table.
use Rattle.std.specs.Prelude.{◌≡◌, ℕ, List, map, Some, slice_get}
use Rattle.flow_plan.specs.declared.kind.KindSpec.{KindSpec}
use Rattle.flow_plan.specs.declared.kind.PortSpec.{PortSpec}
use Rattle.flow_plan.specs.declared.kind.PortClass.TheVariants.{Stream}
use Rattle.flow_plan.specs.declared.plan.Process.{Process}
use Rattle.flow_plan.specs.declared.plan.PortRow.{PortRow}
use Rattle.flow_plan.specs.declared.plan.PortTable.{PortTable}
use Rattle.flow_plan.specs.Network.{Network}

-- The entry of an output as a process has it: it carries packets, whatever its class says.
abbrev pub carries : PortSpec → PortSpec
carries spec = record spec { class = Stream }

-- The entries of a table's rows, in order.
abbrev pub entries : List PortRow → List PortSpec
entries rows = map (λ (row : PortRow). row.spec) rows

-- A process is of a kind of the table: it has the kind's name, and its own table has the kind's ports on each side, in order.
pub record IsOfKind (kinds : List KindSpec) (x : Process) (table : PortTable) : Type 0 where
  pub place : ℕ
  pub kind : KindSpec
  pub here : slice_get kinds place ≡ Some kind
  pub name : x.kind ≡ kind.name
  pub inputs : entries table.inputs ≡ kind.inputs
  pub outputs : entries table.outputs ≡ map carries kind.outputs

-- Each process of a network is of a kind of the table.
pub record IsOver (kinds : List KindSpec) (n : Network) : Type 0 where
  pub each : (p : ℕ) (x : Process) (table : PortTable) → slice_get n.processes p ≡ Some x → slice_get n.tables p ≡ Some table → IsOfKind kinds x table
