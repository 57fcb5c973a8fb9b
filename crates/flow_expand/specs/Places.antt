-- The places of what a text names.
use Rattle.std.specs.Prelude.{ℕ, List, Option, position}
use Rattle.std.specs.Str.{bytes_eq}
use Rattle.flow_parse.specs.declared.value.NetPart.{NetPart}
use Rattle.flow_parse.specs.declared.value.NetText.{NetText}

-- The place of the subnet of a name.
abbrev pub subnet_place : NetText → List ℕ → Option ℕ
subnet_place text name = position (λ (s : List ℕ × NetPart). bytes_eq s.0 name) text.subnets

-- The place of the process of a name in its part.
abbrev pub process_place : NetPart → List ℕ → Option ℕ
process_place part name = position (λ (p : List ℕ × List ℕ). bytes_eq p.0 name) part.processes
