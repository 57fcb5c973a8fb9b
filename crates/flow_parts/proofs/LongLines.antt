-- Lines within the limit of a packet's text, and beyond it.
use Rattle.flow_limits.specs.declared.TheConstants.{TEXT_LIMIT}
use Rattle.std.proofs.Common.{◌≡◌, ℕ, ◌<◌, List, ◌∷◌, length, true, false, refl, arith, nat_lt}
use Rattle.std.proofs.lemmas.Bool.Decides.{nat_tests}
use Rattle.flow_packet.specs.declared.packet.Kind.TheVariants.{Normal}
use Rattle.flow_component.specs.declared.Fail.TheVariants.{TextLimit}
use Rattle.flow_packet.specs.Held.{Held, next_id, with_made}
use Rattle.flow_component.specs.Laws.{Wishes, Fails}
use Rattle.flow_component.specs.Ports.{send_first}
use Rattle.flow_parts.specs.ReadLines.{reads}

-- A line within the limit is made a packet, and sent.
pub reads-made : (held : Held) (left : List (List ℕ)) (line : List ℕ) (rest : List (List ℕ)) → left ≡ line ∷ rest → (TEXT_LIMIT < length line → ⊥) → reads held left ≡ Wishes rest (with_made held Normal line) (send_first (next_id held))
reads-made held left line rest e h = let t : nat_lt TEXT_LIMIT (length line) ≡ false = grind (arith, nat_tests) in rw (e, t) refl

-- A line beyond the limit is a failure, with its length.
pub reads-long : (held : Held) (left : List (List ℕ)) (line : List ℕ) (rest : List (List ℕ)) → left ≡ line ∷ rest → TEXT_LIMIT < length line → reads held left ≡ Fails left held (TextLimit (length line))
reads-long held left line rest e h = let t : nat_lt TEXT_LIMIT (length line) ≡ true = grind (arith, nat_tests) in rw (e, t) refl
