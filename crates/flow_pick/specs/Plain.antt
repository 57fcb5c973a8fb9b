-- What the kinds make of a stream without brackets, in the words that a list of any kind has.
use Rattle.std.specs.Prelude.{◌≡◌, ℕ, ◌-◌, Bool, List, length, take, drop}
use Rattle.std.specs.List.{dedup}
use Rattle.std.specs.Str.{bytes_eq}
use Rattle.flow_packet.specs.Tree.{Tree, text_of}
use Rattle.flow_pick.specs.Places.{picked}
use Rattle.flow_pick.specs.Unique.{is_new}
use Rattle.flow_pick.specs.Head.{is_among_first}
use Rattle.flow_pick.specs.Tail.{AreNormal, is_among_last}

-- The packets have one text.
abbrev pub has_same_text : Tree → Tree → Bool
has_same_text packet before = bytes_eq (text_of before) (text_of packet)

-- Of a stream without brackets the first packet of each row with one text is no repeat, and the others are.
abbrev pub UniqueIsDedup : Type 0
UniqueIsDedup = (x : List Tree) → AreNormal x → picked is_new x ≡ dedup has_same_text x

-- Of a stream without brackets the first packets are a beginning.
abbrev pub HeadIsTake : Type 0
HeadIsTake = (count : ℕ) (x : List Tree) → AreNormal x → picked (is_among_first count) x ≡ take count x

-- And the last ones are an end.
abbrev pub TailIsDrop : Type 0
TailIsDrop = (count : ℕ) (x : List Tree) → AreNormal x → picked (is_among_last count) x ≡ drop (length x - count) x
