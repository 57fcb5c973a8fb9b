-- What a Tally makes of a stream: one packet of each row of equal texts, and the brackets between them.
use Rattle.std.specs.Prelude.{ℕ, ◌+◌, ◌&&◌, Bool, true, false, List, [], ◌∷◌, map, if◌then◌else◌}
use Rattle.std.specs.Str.{bytes_eq}
use Rattle.flow_packet.specs.Tree.{Tree, kind_of, text_of}
use Rattle.flow_packet.specs.declared.packet.Kind.{Kind}
use Rattle.flow_packet.specs.declared.packet.Kind.TheVariants.{Normal, Open, Close}
use Rattle.flow_component.specs.Runs.{text_packet}
use Rattle.flow_parts.specs.Tally.{tally_line}

-- A packet of data, and no bracket.
abbrev pub is_normal : Kind → Bool
is_normal Normal = true
is_normal Open = false
is_normal Close = false

-- Two Normal packets with one text.
abbrev pub are_alike : Tree → Tree → Bool
are_alike p q = is_normal (kind_of p) && is_normal (kind_of q) && bytes_eq (text_of p) (text_of q)

-- A row: its first packet, and how many packets it has.
abbrev pub Row : Type 0
Row = Tree × ℕ

-- The rows of a stream with this packet before it: it stands in the first row where that has its text, and in a row of its own otherwise.
abbrev pub with_first : Tree → List Row → List Row
with_first packet [] = (packet, 1) ∷ []
with_first packet (row ∷ rows) = if are_alike packet row.0 then (packet, row.1 + 1) ∷ rows else (packet, 1) ∷ row ∷ rows

-- The rows of a stream: the longest ones of Normal packets with one text, and each bracket by itself.
abbrev pub rows_of : List Tree → List Row
rows_of [] = []
rows_of (packet ∷ packets) = with_first packet (rows_of packets)

-- What is made of a row with a first packet of this kind.
abbrev pub told_by : Kind → Row → Tree
told_by Normal row = text_packet (tally_line row.1 (text_of row.0))
told_by Open row = row.0
told_by Close row = row.0

-- What is made of a row: of Normal packets one that tells how many they are, and their text; a bracket stays as it is.
abbrev pub told_of : Row → Tree
told_of row = told_by (kind_of row.0) row

-- What a Tally makes of a stream.
abbrev pub tallied : List Tree → List Tree
tallied packets = map told_of (rows_of packets)
