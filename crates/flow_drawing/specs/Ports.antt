-- How ports stand in a drawing.
use Rattle.std.specs.Prelude.{ℕ, ◌==◌, nat_le, Bool, false, List, [], Option, slice_get, unwrap_or}
use Rattle.std.specs.Option.{option_map}
use Rattle.flow_plan.specs.declared.kind.PortRef.{PortRef}
use Rattle.flow_plan.specs.declared.plan.Process.{Process}
use Rattle.flow_plan.specs.Network.{Network, input_port, output_port, spelled}

-- A port as a report spells it, and no bytes where there is none.
abbrev pub port_text : Option PortRef → List ℕ
port_text port = unwrap_or (option_map spelled port) []

-- The input of this number of a process, as it is spelled.
abbrev pub input_text : Network → ℕ → ℕ → List ℕ
input_text plan p i = port_text (input_port plan p i)

-- The output of this number of a process.
abbrev pub output_text : Network → ℕ → ℕ → List ℕ
output_text plan p o = port_text (output_port plan p o)

-- Whether process p of these has an input of this number: one of its own, or its automatic one.
abbrev pub has_input : List Process → ℕ → ℕ → Bool
has_input processes p i = unwrap_or (option_map (λ x. nat_le i x.inputs) (slice_get processes p)) false

-- Whether it has an output of this number.
abbrev pub has_output : List Process → ℕ → ℕ → Bool
has_output processes p o = unwrap_or (option_map (λ x. nat_le o x.outputs) (slice_get processes p)) false

-- Whether an input is the automatic one.
abbrev pub is_automatic_input : Network → ℕ → ℕ → Bool
is_automatic_input plan p i = unwrap_or (option_map (λ x. i == x.inputs) (slice_get plan.processes p)) false

-- Whether an output is the automatic one.
abbrev pub is_automatic_output : Network → ℕ → ℕ → Bool
is_automatic_output plan p o = unwrap_or (option_map (λ x. o == x.outputs) (slice_get plan.processes p)) false
