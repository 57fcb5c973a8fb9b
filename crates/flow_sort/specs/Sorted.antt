-- Streams whose stretches between brackets are sorted.
use Rattle.std.specs.Prelude.{ℕ, List, [], ◌∷◌, ◌++◌, Option, if◌then◌else◌}
use Rattle.flow_packet.specs.declared.packet.Kind.{Kind}
use Rattle.flow_packet.specs.declared.packet.Kind.TheVariants.{Normal, Open, Close}
use Rattle.flow_packet.specs.Tree.{Tree, kind_of}
use Rattle.flow_packet.specs.Sorting.{is_less}

-- Packets in ascending order of their keys and one more: it stands before the first whose key isn't less than its own.
abbrev pub put_in : Option ℕ → Tree → List Tree → List Tree
put_in bytes t [] = t ∷ []
put_in bytes t (u ∷ us) = if is_less bytes u t then u ∷ put_in bytes t us else t ∷ u ∷ us

-- The packets in ascending order of their keys, those of one key in the order in which they stood: each stands before those that came after it, but behind
-- the ones with a lesser key.
abbrev pub stable_sort : Option ℕ → List Tree → List Tree
stable_sort bytes [] = []
stable_sort bytes (t ∷ ts) = put_in bytes t (stable_sort bytes ts)

-- The packets since the last bracket, once this one has come.
abbrev pub stretch_after : List Tree → Tree → Kind → List Tree
stretch_after stretch t Normal = stretch ++ t ∷ []
stretch_after stretch t Open = []
stretch_after stretch t Close = []

-- What leaves with a packet: nothing with a Normal one, and the stretch with the bracket that ends it, sorted, and then the bracket.
abbrev pub leaves_with : Option ℕ → List Tree → Tree → Kind → List Tree
leaves_with bytes stretch t Normal = []
leaves_with bytes stretch t Open = stable_sort bytes stretch ++ t ∷ []
leaves_with bytes stretch t Close = stable_sort bytes stretch ++ t ∷ []

-- The rest of a stream, behind a stretch that has begun.
abbrev pub sorted_from : Option ℕ → List Tree → List Tree → List Tree
sorted_from bytes stretch [] = stable_sort bytes stretch
sorted_from bytes stretch (t ∷ ts) = leaves_with bytes stretch t (kind_of t) ++ sorted_from bytes (stretch_after stretch t (kind_of t)) ts

-- The stream with each stretch sorted: the Normal packets between two brackets, before the first one, or behind the last.
abbrev pub sorted_stretches : Option ℕ → List Tree → List Tree
sorted_stretches bytes stream = sorted_from bytes [] stream
