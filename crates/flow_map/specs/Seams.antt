-- What a line of components that map makes of a stream that comes in parts.
use Rattle.std.specs.Prelude.{◌≡◌, ℕ, List, [], ◌∷◌}
use Rattle.std.specs.List.{flat_map}
use Rattle.flow_packet.specs.Tree.{Tree}
use Rattle.flow_map.specs.Becoming.{Becoming}
use Rattle.flow_map.specs.Plain.{became}

-- A line of them, each with one output and the same for each packet: the first is given the stream, and each of the others what the one before it makes. In place of each stands what becomes of a text by it.
abbrev pub made_in_line : List (List ℕ → Becoming) → List Tree → List Tree
made_in_line [] stream = stream
made_in_line (becomes ∷ line) stream = made_in_line line (flat_map (became becomes) stream)

-- Parts, one behind the other.
abbrev pub joined : List (List Tree) → List Tree
joined parts = flat_map (λ part. part) parts

-- What the line makes of the parts, each by itself, one behind the other, is what it makes of the whole, wherever that was cut.
abbrev pub PartsMakeTheWhole : Type 0
PartsMakeTheWhole = (line : List (List ℕ → Becoming)) (parts : List (List Tree)) → made_in_line line (joined parts) ≡ flat_map (made_in_line line) parts
