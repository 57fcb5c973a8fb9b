-- The collation of streams, as one list of contents.
use Rattle.std.specs.Prelude.{ℕ, zero, suc, ◌+◌, ◌-◌, Bool, List, [], ◌∷◌, ◌++◌, length, take, replicate, if◌then◌else◌, Option, Some, None}
use Rattle.std.specs.Ordering.{nat_cmp, is_lt}
use Rattle.std.specs.Cmp.Lexicographic.{slice_cmp}
use Rattle.flow_packet.specs.declared.packet.Kind.TheVariants.{Open, Close}
use Rattle.flow_packet.specs.Tree.{Tree, text_of, packet_of}
use Rattle.flow_streams.specs.Collation.{width, key, levels_that_differ}

-- The key of a packet is less, by bytes, than that of another.
abbrev pub has_less : ℕ → Tree → Tree → Bool
has_less bytes t u = is_lt (slice_cmp nat_cmp (key bytes t) (key bytes u))

-- Two streams merged: of the two packets that come next the first stream's goes first, unless the second's has a lesser key.
abbrev pub merged_before : ℕ → Tree → (List Tree → List Tree) → List Tree → List Tree
merged_before bytes x rest [] = x ∷ rest []
merged_before bytes x rest (y ∷ ys) = if has_less bytes y x then y ∷ merged_before bytes x rest ys else x ∷ rest (y ∷ ys)

-- Two sorted lists as one; of equal keys those of the first list come first.
abbrev pub merge : ℕ → List Tree → List Tree → List Tree
merge bytes [] ys = ys
merge bytes (x ∷ xs) ys = merged_before bytes x (merge bytes xs) ys

-- Several streams merged: the first with the merge of the others.
abbrev pub merge_all : ℕ → List (List Tree) → List Tree
merge_all bytes [] = []
merge_all bytes (s ∷ ss) = merge bytes s (merge_all bytes ss)

-- So many Close packets.
abbrev pub closes : ℕ → List Tree
closes n = replicate n (packet_of 0 Close [] [])

-- Open packets for the last n levels, each with its level's key of the text.
abbrev pub opens : List ℕ → ℕ → List ℕ → List Tree
opens fields zero text = []
opens fields (suc n) text = packet_of 0 Open (take (width fields (length fields - n)) text) [] ∷ opens fields n text

-- The brackets before a packet: each level is opened before the first, and later those from the lowest on at which the keys differ are closed and opened.
abbrev pub turn : List ℕ → Option (List ℕ) → List ℕ → List Tree
turn fields None new = opens fields (length fields) new
turn fields (Some old) new = closes (levels_that_differ fields old new) ++ opens fields (levels_that_differ fields old new) new

-- Packets with the brackets between them, and at the end. Before them stood a packet with this text, or none.
abbrev pub bracketed : List ℕ → Option (List ℕ) → List Tree → List Tree
bracketed fields None [] = []
bracketed fields (Some old) [] = closes (length fields)
bracketed fields before (t ∷ ts) = turn fields before (text_of t) ++ t ∷ bracketed fields (Some (text_of t)) ts

-- The streams are merged by the key of all fields, and brackets stand where a level's key changes.
abbrev pub collation : List ℕ → List (List Tree) → List Tree
collation fields streams = bracketed fields None (merge_all (width fields (length fields)) streams)

-- The streams of n inputs, from number k on.
abbrev pub listed : ℕ → ℕ → (ℕ → List Tree) → List (List Tree)
listed k zero stream = []
listed k (suc n) stream = stream k ∷ listed (k + 1) n stream
