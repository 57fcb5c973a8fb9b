-- Hands that hold one packet alone.
use Rattle.std.specs.Prelude.{◌≡◌, ℕ, [], ◌∷◌}
use Rattle.flow_packet.specs.Tree.{Tree, id_of}
use Rattle.flow_packet.specs.Held.{Held, next_id}

-- The hands hold the packet with this id and no other, and the next id is another.
pub record HoldsOnly (held : Held) (id : ℕ) : Type 0 where
  pub packet : Tree
  pub holds : held.packets ≡ packet ∷ []
  pub named : id_of packet ≡ id
  pub older : id ≡ next_id held → ⊥
