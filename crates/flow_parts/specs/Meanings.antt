-- What the components make of their streams, from their first state to their end. (Morrison's components and JavaFBP's; the exact
-- rules are this project's own.)
use Rattle.flow_limits.specs.declared.TheConstants.{TURN_LIMIT}
use Rattle.std.specs.Prelude.{◌≡◌, ◌≢◌, ℕ, List, [], ◌∷◌, ◌++◌, map, ◌+◌, ◌≤◌, Bool, true, false, length, drop, Option, Some, None}
use Rattle.std.specs.Fmt.{decimal}
use Rattle.std.specs.List.{flat_map}
use Rattle.flow_packet.specs.declared.packet.Kind.{Kind}
use Rattle.flow_packet.specs.declared.packet.Kind.TheVariants.{Normal, Open, Close}
use Rattle.flow_packet.specs.Tree.{Tree, kind_of, text_of, packet_of}
use Rattle.flow_component.specs.Happenings.{Happening}
use Rattle.flow_component.specs.Runs.{EndedRun, EndIsLast, got, sent, text_packet, StartsBring, Wakes}
use Rattle.flow_parts.specs.ReadLines.{read_lines_rules}
use Rattle.flow_parts.specs.WriteLines.{rendered, write_lines_rules}
use Rattle.flow_parts.specs.declared.fill.FillPlace.TheVariants.{Waiting}
use Rattle.flow_parts.specs.declared.words.Words.TheVariants as words_parts
use Rattle.flow_parts.specs.Text.{words}
use Rattle.flow_parts.specs.Words.{words_rules}
use Rattle.flow_parts.specs.Brackets.{bracket_of, brackets_rules}
use Rattle.flow_parts.specs.Count.{CountState, count_rules}
use Rattle.flow_parts.specs.FillState.{FillState}
use Rattle.flow_parts.specs.Fill.{fill_rules}
use Rattle.flow_parts.specs.Filling.{Filling}
use Rattle.flow_parts.specs.declared.tally.TallyPlace.TheVariants as tally_places
use Rattle.flow_parts.specs.TallyState.{TallyState}
use Rattle.flow_parts.specs.Tally.{tally_rules}
use Rattle.flow_parts.specs.Tallied.{tallied}

-- A stream as the bytes of a file: each packet as a line.
abbrev pub rendered_all : List Tree → List ℕ
rendered_all x = flat_map (λ packet. rendered (kind_of packet) (text_of packet)) x

-- A ReadLines that has run sends a Normal packet for each of its lines.
abbrev pub ReadLinesMeaning : Type 0
ReadLinesMeaning = (left : List (List ℕ)) (told : List Happening) → EndedRun read_lines_rules left told → told ≢ [] → sent 0 told ≡ map text_packet left

-- A WriteLines has written what it got.
abbrev pub WriteLinesMeaning : Type 0
WriteLinesMeaning = (bytes : List ℕ) (told : List Happening) (run : EndedRun write_lines_rules bytes told) → run.last.component ≡ bytes ++ rendered_all (got 0 told)

-- A Fill at its start: it has no line in hand.
abbrev pub fresh_fill : ℕ → FillState
fresh_fill size = record { size = size; line = []; place = Waiting }

-- What a Fill sends is a filling of what it gets.
abbrev pub FillMeaning : Type 0
FillMeaning = (size : ℕ) (told : List Happening) → EndedRun fill_rules (fresh_fill size) told → EndIsLast 0 told → Filling size (got 0 told) (sent 0 told)

-- A Normal packet as its words; a bracket stays as it is.
abbrev pub words_as : Kind → Tree → List Tree
words_as Normal packet = map text_packet (words (text_of packet))
words_as Open packet = packet ∷ []
words_as Close packet = packet ∷ []

-- What Words makes of a packet.
abbrev pub words_of : Tree → List Tree
words_of packet = words_as (kind_of packet) packet

-- A Words sends what it gets, each Normal packet replaced by its words.
abbrev pub WordsMeaning : Type 0
WordsMeaning = (told : List Happening) → EndedRun words_rules words_parts.Waiting told → sent 0 told ≡ flat_map words_of (got 0 told)

-- There is at most one filling of a stream.
abbrev pub OneFilling : Type 0
OneFilling = (size : ℕ) (x y z : List Tree) → Filling size x y → Filling size x z → y ≡ z

-- A Count at its start.
abbrev pub fresh_count : Bool → CountState
fresh_count connected = record { connected = connected; number = 0; leaving = false }

-- How many of the packets are Normal.
abbrev pub normal_one : Kind → ℕ
normal_one Normal = 1
normal_one Open = 0
normal_one Close = 0

-- How many packets of data there are.
abbrev pub normals : List Tree → ℕ
normals [] = 0
normals (packet ∷ x) = normal_one (kind_of packet) + normals x

-- What a Count makes of x: it sends x on where its first output is connected, and nothing there otherwise; and to its second output one packet with the number of the Normal packets, or nothing
-- where x is empty.
pub record IsCounted (connected : Bool) (x y count : List Tree) : Type 0 where
  pub passed : connected ≡ true → y ≡ x
  pub silent : connected ≡ false → y ≡ []
  pub nothing : x ≡ [] → count ≡ []
  pub counted : x ≢ [] → count ≡ text_packet (decimal (normals x)) ∷ []

-- The meaning of Count, over whole runs.
abbrev pub CountMeaning : Type 0
CountMeaning = (connected : Bool) (told : List Happening) → EndedRun count_rules (fresh_count connected) told → StartsBring (λ port. port ≡ 0) told → Wakes 1 [] told → length told ≤ TURN_LIMIT
    → IsCounted connected (got 0 told) (sent 0 told) (sent 1 told)

-- A packet, or the bracket that its text names, with the rest of the text.
abbrev pub bracketed_as : Option Kind → Tree → Tree
bracketed_as None packet = packet
bracketed_as (Some kind) packet = packet_of 0 kind (drop 1 (text_of packet)) []

-- A Normal packet is turned so; a bracket stays as it is.
abbrev pub bracketed_by : Kind → Tree → Tree
bracketed_by Normal packet = bracketed_as (bracket_of (text_of packet)) packet
bracketed_by Open packet = packet
bracketed_by Close packet = packet

-- What Brackets makes of a packet.
abbrev pub bracketed : Tree → Tree
bracketed packet = bracketed_by (kind_of packet) packet

-- A Brackets sends what it gets, each Normal packet that names a bracket replaced by that.
abbrev pub BracketsMeaning : Type 0 → Type 0
BracketsMeaning K = (component : K) (told : List Happening) → EndedRun brackets_rules component told → sent 0 told ≡ map bracketed (got 0 told)

-- A Tally at its start: it has no row in hand.
abbrev pub fresh_tally : TallyState
fresh_tally = record { times = 0; text = []; place = tally_places.Waiting }

-- A Tally sends what it gets, each row of Normal packets with one text replaced by what is told of it.
abbrev pub TallyMeaning : Type 0
TallyMeaning = (told : List Happening) → EndedRun tally_rules fresh_tally told → EndIsLast 0 told → length told ≤ TURN_LIMIT → sent 0 told ≡ tallied (got 0 told)
