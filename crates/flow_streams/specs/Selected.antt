-- A stream of packets that is selected by a stream of keys, each packet by the key of its number.
use Rattle.std.specs.Prelude.{◌≡◌, nat_eq, if◌then◌else◌, Bool, List, [], ◌∷◌}
use Rattle.std.specs.List.{starts_with}
use Rattle.flow_packet.specs.Tree.{Tree, text_of}

-- A key accepts a packet whose text begins with the key's text.
abbrev pub accepts : Tree → Tree → Bool
accepts key packet = starts_with nat_eq (text_of packet) (text_of key)

-- The packets that their keys accept, in order.
abbrev pub accepted : List Tree → List Tree → List Tree
accepted [] packets = []
accepted (key ∷ keys) [] = []
accepted (key ∷ keys) (packet ∷ packets) = if accepts key packet then packet ∷ accepted keys packets else accepted keys packets

-- The other packets, in order: those that their keys don't accept, and those for which there is no key any more.
abbrev pub rejected : List Tree → List Tree → List Tree
rejected [] packets = packets
rejected (key ∷ keys) [] = []
rejected (key ∷ keys) (packet ∷ packets) = if accepts key packet then rejected keys packets else packet ∷ rejected keys packets

-- What a Select makes of a stream of keys and one of packets: it sends the accepted ones to its first output, and the rejected ones to its second one, where that is
-- connected.
pub record IsSelected (connected : Bool) (keys packets first second : List Tree) : Type 0 where
  pub accepts_some : first ≡ accepted keys packets
  pub rejects_others : second ≡ (if connected then rejected keys packets else [])
