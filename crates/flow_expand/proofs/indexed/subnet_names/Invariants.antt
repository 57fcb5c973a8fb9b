use Rattle.std.proofs.Common.{◌≡◌, ℕ, List, take}
use Rattle.std.specs.Prelude.{position}
use Rattle.std.specs.Str.{bytes_eq}
use Rattle.flow_parse.specs.declared.value.NetPart.{NetPart}
use Rattle.flow_parse.specs.Places.{place_in}
use Rattle.flow_expand.proofs.indexed.subnet_names.Given as goal

abbrev pub invariant-subnets : goal.invariant-subnets
invariant-subnets l = (name : List ℕ) → place_in l.names.places name ≡ position (λ (s : List ℕ × NetPart). bytes_eq s.0 name) (take l.place l.subnets)
