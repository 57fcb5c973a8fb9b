-- The kinds of components that work by line.
use Rattle.std.specs.Prelude.{◌∷◌, [], ◌++◌, ℕ, List, Bool, true, false, codes}
use Rattle.flow_plan.specs.declared.kind.KindSpec.{KindSpec}
use Rattle.flow_plan.specs.declared.kind.PortClass.{PortClass}
use Rattle.flow_plan.specs.declared.kind.PortSpec.{PortSpec}
use Rattle.flow_plan.specs.declared.kind.PortClass.TheVariants.{Stream}

-- A port of this name that carries packets and has to be connected.
abbrev pub packets_port : List ℕ → PortSpec
packets_port name = record { name = name; class = Stream; array = false; needed = true }

-- A port of this name that takes one text of this class before the network runs. Where it is needed it has to have one.
abbrev pub option : List ℕ → PortClass → Bool → PortSpec
option name class needed = record { name = name; class = class; array = false; needed = needed }

-- The kind of this name: packets come in at IN, and leave by OUT.
abbrev pub line_kind : List ℕ → KindSpec
line_kind name = record { name = name; inputs = packets_port (codes "IN") ∷ []; outputs = packets_port (codes "OUT") ∷ [] }

-- The kind of this name with these options before its port IN.
abbrev pub line_kind_with : List ℕ → List PortSpec → KindSpec
line_kind_with name options = record { name = name; inputs = options ++ packets_port (codes "IN") ∷ []; outputs = packets_port (codes "OUT") ∷ [] }
