-- Keys, the packet that goes first, and the levels at which two packets differ.
use Rattle.std.specs.Prelude.{ℕ, ◌+◌, Bool, List, [], ◌∷◌, length, take, sum, slice_index, if◌then◌else◌, get_or, Option, Some, None}
use Rattle.std.specs.Str.{bytes_eq}
use Rattle.std.specs.Ordering.{nat_cmp, ordering_then, is_lt}
use Rattle.std.specs.Cmp.Lexicographic.{slice_cmp}
use Rattle.flow_packet.specs.declared.packet.Kind.TheVariants.{Normal}
use Rattle.flow_packet.specs.Tree.{Tree, text_of, packet_of}

-- How many bytes the key of a level has: the sum of the first fields.
abbrev pub width : List ℕ → ℕ → ℕ
width fields level = sum (take level fields)

-- A packet's key: the first bytes of its text, or the whole text where it is shorter.
abbrev pub key : ℕ → Tree → List ℕ
key bytes packet = take bytes (text_of packet)

-- A packet of one element goes before that of another where its key is less by bytes, or the keys are equal and its element is the lower one.
abbrev pub goes_before : ℕ → ℕ → Tree → ℕ → Tree → Bool
goes_before bytes e t f u = is_lt (ordering_then (slice_cmp nat_cmp (key bytes t) (key bytes u)) (nat_cmp e f))

-- A packet that stands where a list has none.
abbrev pub blank : Tree
blank = packet_of 0 Normal [] []

-- The packet at a place.
abbrev pub packet_there : List Tree → ℕ → Tree
packet_there packets place = get_or packets place blank

-- The first packet goes first, unless the one that goes first of the others goes before it.
abbrev pub or_later : ℕ → ℕ → Tree → List ℕ → List Tree → Option ℕ → Option ℕ
or_later bytes e t es ts None = Some 0
or_later bytes e t es ts (Some place) = if goes_before bytes (slice_index es place) (packet_there ts place) e t then Some (place + 1) else Some 0

-- The place of the packet that goes first, if there is one. The packets come from these elements.
abbrev pub first_of : ℕ → List ℕ → List Tree → Option ℕ
first_of bytes [] ts = None
first_of bytes (e ∷ es) [] = None
first_of bytes (e ∷ es) (t ∷ ts) = or_later bytes e t es ts (first_of bytes es ts)

-- How many levels there are from the lowest one on at which the keys of two texts differ; none where they differ at no level. (`before` is the width of the levels below.)
abbrev pub levels_from : ℕ → List ℕ → List ℕ → List ℕ → ℕ
levels_from before [] old new = 0
levels_from before (field ∷ fields) old new =
    if bytes_eq (take (before + field) old) (take (before + field) new) then levels_from (before + field) fields old new else length (field ∷ fields)

-- How many levels there are at which two keys differ, from the lowest one on.
abbrev pub levels_that_differ : List ℕ → List ℕ → List ℕ → ℕ
levels_that_differ fields old new = levels_from 0 fields old new
