-- No component that maps plainly looks across a seam, and so no line of them does.
use Rattle.std.proofs.Common.{◌≡◌, ℕ, List, [], ◌∷◌, ◌++◌, refl, sym, ap, ◌∙◌}
use Rattle.std.proofs.lemmas.List.Concat.{flat_map-append}
use Rattle.std.specs.List.{flat_map}
use Rattle.flow_packet.specs.Tree.{Tree}
use Rattle.flow_map.specs.Becoming.{Becoming}
use Rattle.flow_map.specs.Plain.{became}
use Rattle.flow_map.specs.Seams.{made_in_line, joined, PartsMakeTheWhole}

of-none : (line : List (List ℕ → Becoming)) → made_in_line line [] ≡ []
of-none [] = refl
of-none (becomes ∷ line) = of-none line

of-two : (line : List (List ℕ → Becoming)) (first second : List Tree) → made_in_line line (first ++ second) ≡ made_in_line line first ++ made_in_line line second
of-two [] first second = refl
of-two (becomes ∷ line) first second =
    ap (made_in_line line) (flat_map-append (became becomes) first second)
    ∙ of-two line (flat_map (became becomes) first) (flat_map (became becomes) second)

-- Of any number of parts.
pub parts_make_the_whole : PartsMakeTheWhole
parts_make_the_whole line [] = of-none line
parts_make_the_whole line (part ∷ parts) =
    of-two line part (joined parts)
    ∙ ap (λ (x : List Tree). made_in_line line part ++ x) (parts_make_the_whole line parts)
