-- A way into the parts of a text: main, and one subnet inside the other.
use Rattle.flow_limits.specs.declared.TheConstants.{SUBNET_DEPTH}
use Rattle.std.specs.Prelude.{ℕ, ◌+◌, ◌-◌, List, [], ◌∷◌, ◌++◌, length, drop, Option, Some, None, slice_get}
use Rattle.std.specs.List.{flat_map}
use Rattle.std.specs.Option.{option_map_or}
use Rattle.flow_parse.specs.declared.value.NetPart.{NetPart}
use Rattle.flow_parse.specs.declared.value.NetText.{NetText}
use Rattle.flow_flat.specs.Subnets.{Instance, subnet_called, within, instances}
use Rattle.flow_expand.specs.declared.way.Frame.{Frame}

-- The part at a place: main where there is none.
abbrev pub part_at : NetText → Option ℕ → NetPart
part_at text None = text.main
part_at text (Some s) = option_map_or (λ (x : List ℕ × NetPart). x.1) (slice_get text.subnets s) text.main

-- The name of the subnet at a place, and of the main part where there is none.
abbrev pub name_at : NetText → Option ℕ → List ℕ
name_at text None = []
name_at text (Some s) = option_map_or (λ (x : List ℕ × NetPart). x.0) (slice_get text.subnets s) []

-- The names of the subnets around the processes of the first part of a way, the innermost first; the last part is main.
abbrev pub inside_of : NetText → List Frame → List (List ℕ)
inside_of text [] = []
inside_of text (f ∷ []) = []
inside_of text (f ∷ g ∷ fs) = name_at text f.subnet ∷ inside_of text (g ∷ fs)

-- A process of a part, so many levels down, followed by those inside it where it is a subnet.
abbrev pub entry : NetText → ℕ → List ℕ → List (List ℕ) → List ℕ × List ℕ → List Instance
entry text n prefix inside x = record { name = prefix ++ x.0; kind = x.1; inside = inside } ∷ option_map_or (instances text n (within prefix x.0) (x.1 ∷ inside)) (subnet_called text x.1) []

-- What is still to come of the parts of a way, the innermost first.
abbrev pub rest : NetText → List Frame → List Instance
rest text [] = []
rest text (f ∷ fs) = flat_map (entry text (SUBNET_DEPTH + 1 - length fs) f.prefix (inside_of text (f ∷ fs))) (drop f.next (part_at text f.subnet).processes) ++ rest text fs
