-- A stream whose substreams have become bundles.
use Rattle.std.specs.Prelude.{ℕ, ◌-◌, List, [], ◌∷◌, ◌++◌, nat_lt, if◌then◌else◌}
use Rattle.flow_packet.specs.declared.packet.Kind.{Kind}
use Rattle.flow_packet.specs.declared.packet.Kind.TheVariants.{Normal, Open, Close}
use Rattle.flow_packet.specs.Tree.{Tree, kind_of, text_of, packet_of, with_chains, chains_of, attach_to}
use Rattle.flow_streams.specs.Bundle.{items, deeper}

-- Outside of all brackets; or inside a bundle, with so many brackets open.
pub data Around : Type 0 where
  Outside : Around
  Inside : (bundle : Tree) → (depth : ℕ) → Around

-- A bundle with a packet more at the end of its chain of items.
abbrev pub with_item : Tree → Tree → Tree
with_item bundle packet = with_chains bundle (attach_to (chains_of bundle) items packet)

-- A bundle before its first packet: a Normal packet with the text of the Open packet.
abbrev pub bundle_of : Tree → Tree
bundle_of opening = packet_of 0 Normal (text_of opening) []

-- What is around the packets behind this one.
abbrev pub around_after : Around → Tree → Kind → Around
around_after Outside packet Normal = Outside
around_after Outside packet Open = Inside (bundle_of packet) 1
around_after Outside packet Close = Outside
around_after (Inside bundle depth) packet Normal = Inside (with_item bundle packet) depth
around_after (Inside bundle depth) packet Open = Inside (with_item bundle packet) (deeper depth)
around_after (Inside bundle depth) packet Close = if nat_lt 1 depth then Inside (with_item bundle packet) (depth - 1) else Outside

-- What leaves with this packet: itself outside, nothing inside, and the bundle with the Close packet that ends it.
abbrev pub leaves_with : Around → Tree → Kind → List Tree
leaves_with Outside packet Normal = packet ∷ []
leaves_with Outside packet Open = []
leaves_with Outside packet Close = packet ∷ []
leaves_with (Inside bundle depth) packet Normal = []
leaves_with (Inside bundle depth) packet Open = []
leaves_with (Inside bundle depth) packet Close = if nat_lt 1 depth then [] else bundle ∷ []

-- The stream with each substream replaced by its bundle. What stands in a substream that isn't closed has not left.
abbrev pub bundled : Around → List Tree → List Tree
bundled around [] = []
bundled around (packet ∷ later) = leaves_with around packet (kind_of packet) ++ bundled (around_after around packet (kind_of packet)) later
