-- The places of a stream, and a stream that is parted by what its places say.
use Rattle.std.specs.Prelude.{◌≡◌, ℕ, ◌+◌, Bool, true, false, not, List, [], ◌∷◌, map, filter}
use Rattle.flow_packet.specs.declared.packet.Kind.{Kind}
use Rattle.flow_packet.specs.declared.packet.Kind.TheVariants.{Normal, Open, Close}
use Rattle.flow_packet.specs.Tree.{Tree, kind_of}

-- A packet in its stream: what came before it, the nearest first, and what comes behind it.
pub record Place : Type 0 where
  pub earlier : List Tree
  pub packet : Tree
  pub later : List Tree

-- Each packet in its place, where these came before, the nearest first.
abbrev pub places : List Tree → List Tree → List Place
places earlier [] = []
places earlier (packet ∷ later) = record { earlier = earlier; packet = packet; later = later } ∷ places (packet ∷ earlier) later

-- The packets of the stream, in order, whose places are picked, where these came before.
abbrev pub picked_behind : (Place → Bool) → List Tree → List Tree → List Tree
picked_behind picks earlier x = map (λ place. place.packet) (filter picks (places earlier x))

-- The packets of the stream, in order, whose places are picked.
abbrev pub picked : (Place → Bool) → List Tree → List Tree
picked picks x = picked_behind picks [] x

-- The other packets of the stream, in order.
abbrev pub left_over : (Place → Bool) → List Tree → List Tree
left_over picks x = picked (λ place. not (picks place)) x

-- A stream is parted so: what is picked goes to the first output, and the others to the second one, where that is connected.
pub record IsParted (picks : Place → Bool) (connected : Bool) (x first second : List Tree) : Type 0 where
  pub picks_some : first ≡ picked picks x
  pub leaves_others : connected ≡ true → second ≡ left_over picks x
  pub drops_others : connected ≡ false → second ≡ []

-- A packet that opens or closes a substream.
abbrev pub is_bracket : Kind → Bool
is_bracket Normal = false
is_bracket Open = true
is_bracket Close = true

-- How long the beginning without brackets is with such a packet before it.
abbrev pub one_longer : Kind → ℕ → ℕ
one_longer Normal n = n + 1
one_longer Open n = 0
one_longer Close n = 0

-- How many Normal packets stand at the beginning, before the first bracket or the end.
abbrev pub stretch : List Tree → ℕ
stretch [] = 0
stretch (packet ∷ packets) = one_longer (kind_of packet) (stretch packets)
