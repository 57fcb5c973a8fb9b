-- What becomes of a bundle that is unpacked.
use Rattle.std.specs.Prelude.{ℕ, List, [], ◌∷◌, ◌++◌, if◌then◌else◌}
use Rattle.std.specs.Str.{bytes_eq}
use Rattle.flow_packet.specs.declared.packet.Kind.TheVariants.{Open, Close}
use Rattle.flow_packet.specs.Tree.{Tree, Chain, chains_of, packet_of, text_of}
use Rattle.flow_streams.specs.Bundle.{items}

-- The packets of one chain, and behind them, unless there are none, those of the others.
abbrev pub and_behind : List Tree → List Tree → List Tree
and_behind [] others = []
and_behind (t ∷ ts) others = (t ∷ ts) ++ others

-- The packets in the chain with this name. (A packet has one chain of a name at most, and it isn't empty. Where it had several, these are the packets of all,
-- up to one that is empty.)
abbrev pub members : List Chain → List ℕ → List Tree
members [] name = []
members (c ∷ cs) name = if bytes_eq c.0 name then and_behind c.1 (members cs name) else members cs name

-- A packet with members is replaced by an Open packet with its text, its members, and a Close packet without text; another one stays.
abbrev pub unbundled_with : Tree → List Tree → List Tree
unbundled_with packet [] = packet ∷ []
unbundled_with packet (t ∷ ts) = packet_of 0 Open (text_of packet) [] ∷ (t ∷ ts) ++ packet_of 0 Close [] [] ∷ []

-- What becomes of a packet: its members are those of its chain of items.
abbrev pub unbundled : Tree → List Tree
unbundled packet = unbundled_with packet (members (chains_of packet) items)
