-- How a report names the processes, ports and connections of a plan. The form of the names is this project's own.
use Rattle.std.specs.Prelude.{◌++◌, ℕ, nat_le, Bool, true, false, List, [], Option, Some, None, slice_get, unwrap_or, codes}
use Rattle.std.specs.Option.{option_map}
use Rattle.flow_plan.specs.declared.kind.PortRef.{PortRef}
use Rattle.flow_plan.specs.declared.plan.Connection.{Connection}
use Rattle.flow_plan.specs.Network.{Network, input_port, output_port, spelled}

-- A port that is there, as it is spelled.
abbrev pub spelled_if : Bool → Option PortRef → List ℕ
spelled_if false port = []
spelled_if true None = []
spelled_if true (Some port) = spelled port

-- Whether a process has an input of this number: one of its own, or its automatic one.
abbrev pub has_input : Network → ℕ → ℕ → Bool
has_input plan p i = unwrap_or (option_map (λ x. nat_le i x.inputs) (slice_get plan.processes p)) false

-- Whether it has an output of this number.
abbrev pub has_output : Network → ℕ → ℕ → Bool
has_output plan p o = unwrap_or (option_map (λ x. nat_le o x.outputs) (slice_get plan.processes p)) false

-- An input of a process as it is spelled, and no bytes where the process doesn't have it.
abbrev pub input_text : Network → ℕ → ℕ → List ℕ
input_text plan p i = spelled_if (has_input plan p i) (input_port plan p i)

-- How an output of a process is spelled.
abbrev pub output_text : Network → ℕ → ℕ → List ℕ
output_text plan p o = spelled_if (has_output plan p o) (output_port plan p o)

-- The flat name of a process.
abbrev pub name_text : Network → ℕ → List ℕ
name_text plan p = unwrap_or (option_map (λ x. x.name) (slice_get plan.processes p)) []

-- The kind of a process.
abbrev pub kind_text : Network → ℕ → List ℕ
kind_text plan p = unwrap_or (option_map (λ x. x.kind) (slice_get plan.processes p)) []

-- A connection is named by its receiver and the input there.
abbrev pub receiver_text : Network → Option Connection → List ℕ
receiver_text plan (Some connection) = name_text plan connection.receiver ++ codes "." ++ input_text plan connection.receiver connection.input
receiver_text plan None = []

-- The name of a connection.
abbrev pub connection_text : Network → ℕ → List ℕ
connection_text plan c = receiver_text plan (slice_get plan.connections c)
