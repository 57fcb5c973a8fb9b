-- Texts that are made, as packets.
use Rattle.std.proofs.Common.{◌≡◌, ℕ, List, [], ◌∷◌, map, refl, ap}
use Rattle.flow_packet.specs.Tree.{Tree}
use Rattle.flow_component.specs.Runs.{text_packet}
use Rattle.flow_map.specs.Becoming.{packet_made}
use Rattle.flow_find.specs.Pieces.{text_product}

pub made : {A : Type 0} (f : A → List ℕ) (xs : List A) → map packet_made (map (λ x. text_product (f x)) xs) ≡ map text_packet (map f xs)
made f [] = refl
made f (x ∷ xs) = ap (λ (ts : List Tree). text_packet (f x) ∷ ts) (made f xs)
