-- Tables of kinds.
use Rattle.flow_limits.specs.declared.TheConstants.{PORT_LIMIT}
use Rattle.std.specs.Prelude.{ℕ, ◌&&◌, nat_le, not, if◌then◌else◌, Bool, true, false, List, [], ◌∷◌, ◌++◌, map, length, codes}
use Rattle.std.specs.List.{list_all, list_any}
use Rattle.std.specs.Str.{bytes_eq}
use Rattle.flow_plan.specs.declared.kind.KindSpec.{KindSpec}
use Rattle.flow_plan.specs.declared.kind.PortSpec.{PortSpec}
use Rattle.flow_plan.specs.declared.kind.PortClass.TheVariants.{Stream}
use Rattle.flow_plan.specs.Network.{is_stream}

-- An automatic port, as an entry of a table: it carries packets, and needn't be connected.
abbrev pub automatic : List ℕ → PortSpec
automatic name = record { name = name; class = Stream; array = false; needed = false }

-- The entries of the inputs of a process of a kind: those of the kind, and the automatic input.
abbrev pub all_inputs : List PortSpec → List PortSpec
all_inputs specs = specs ++ automatic (codes "*IN") ∷ []

-- The entries of its outputs: those of the kind, and the automatic output.
abbrev pub all_outputs : List PortSpec → List PortSpec
all_outputs specs = specs ++ automatic (codes "*OUT") ∷ []

-- No two of these names are the same.
abbrev pub all_differ : List (List ℕ) → Bool
all_differ [] = true
all_differ (name ∷ names) = not (list_any (bytes_eq name) names) && all_differ names

-- An array is needed.
abbrev pub is_needed_array : PortSpec → Bool
is_needed_array spec = if spec.array then spec.needed else true

-- An input for packets is needed, and an option port is no array. (An option port that isn't needed may be left without its text.)
abbrev pub is_input : PortSpec → Bool
is_input spec = if is_stream spec.class then spec.needed else not spec.array

-- An input takes texts where it is an option port or needed. The automatic one is neither, and takes none.
abbrev pub takes_texts : PortSpec → Bool
takes_texts spec = if is_stream spec.class then spec.needed else true

-- A kind: its inputs for packets and its arrays are needed, its option ports are no arrays, its ports have different names on each side, and there are at most PORT_LIMIT on each.
abbrev pub is_kind : KindSpec → Bool
is_kind kind =
    (list_all is_input kind.inputs && list_all is_needed_array kind.outputs)
    && ((nat_le (length kind.inputs) PORT_LIMIT && nat_le (length kind.outputs) PORT_LIMIT)
    && (all_differ (map (λ (spec : PortSpec). spec.name) kind.inputs) && all_differ (map (λ (spec : PortSpec). spec.name) kind.outputs)))

-- A table of kinds: each is one, and their names differ.
abbrev pub is_table : List KindSpec → Bool
is_table kinds = list_all is_kind kinds && all_differ (map (λ (kind : KindSpec). kind.name) kinds)
