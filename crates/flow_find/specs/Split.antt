-- The component that splits each text at the matches of a pattern.
use Rattle.std.specs.Prelude.{◌≡◌, ℕ, zero, suc, ◌+◌, ◌-◌, Bool, true, false, List, [], ◌∷◌, ◌++◌, map, length, nat_lt, Option, Some, None, option_map, if◌then◌else◌}
use Rattle.std.specs.List.{flat_map}
use Rattle.regex.specs.Patterns.{find_all, span}
use Rattle.regex.specs.Search.{gaps, next_match, matches_after}
use Rattle.flow_packet.specs.declared.packet.Kind.{Kind}
use Rattle.flow_packet.specs.declared.packet.Kind.TheVariants.{Normal, Open, Close}
use Rattle.flow_packet.specs.Tree.{Tree, kind_of, text_of, packet_of}
use Rattle.flow_component.specs.Laws.{Rules}
use Rattle.flow_component.specs.Happenings.{Happening}
use Rattle.flow_component.specs.Runs.{EndedRun, got, sent, text_packet}
use Rattle.flow_pattern.specs.Pattern.{expression}
use Rattle.flow_map.specs.Becoming.{Becoming}
use Rattle.flow_map.specs.Mapping.{Mapping, Mapped, Product, Next, Over, Itself, Last, More, waiting, mapper_rules}
use Rattle.flow_map.specs.Plain.{plain_mapping}
use Rattle.flow_find.specs.Pieces.{piece, text_product, end_place, only_made}

-- What a Split is: a pattern, and whether the pieces of a text go in brackets.
pub record Splitting : Type 0 where
  pub pattern : List ℕ
  pub bracketed : Bool

-- A bracket with no text.
abbrev pub bracket : Kind → Product
bracket kind = record { kind = kind; text = [] }

-- The text from a place to the next match is sent, and then what comes behind that; where nothing matches any more the rest is sent, as the last.
abbrev pub sends_before : List ℕ → ℕ → Option (ℕ × ℕ) → Next
sends_before text from None = Last (text_product (piece text (from, length text)))
sends_before text from (Some s) = More (text_product (piece text (from, s.0))) (s.1 + 1)

-- The piece of a text that comes next: at place 0 the first, and at place n + 1 the one behind a match that ended at n.
abbrev pub piece_next : List ℕ → List ℕ → ℕ → Next
piece_next pattern text place = sends_before text (place - 1) (option_map span (next_match false (expression pattern) text place))

-- What comes next inside brackets, where the places are one more, and the closing bracket comes behind the last piece, from the place behind the last.
abbrev pub inside : List ℕ → Next → Next
inside text Over = Last (bracket Close)
inside text Itself = Last (bracket Close)
inside text (Last product) = More product (end_place text + 2)
inside text (More product place) = More product (place + 1)

-- In brackets: first the opening one, then the pieces, and the closing one.
abbrev pub bracketed_next : List ℕ → List ℕ → ℕ → Next
bracketed_next pattern text zero = More (bracket Open) 1
bracketed_next pattern text (suc place) = if nat_lt (end_place text) place then Last (bracket Close) else inside text (piece_next pattern text place)

-- What comes next of a text.
abbrev pub next_as : Bool → List ℕ → List ℕ → ℕ → Next
next_as false = piece_next
next_as true = bracketed_next

-- Its last place.
abbrev pub last_as : Bool → List ℕ → ℕ
last_as false text = end_place text
last_as true text = end_place text + 2

-- How a Split maps.
abbrev pub split_mapping : Mapping Splitting
split_mapping = plain_mapping (λ own text. last_as own.bracketed text) (λ own text place. next_as own.bracketed own.pattern text place)

-- The packets of the pieces that are still to come.
abbrev pub pieces_from : List ℕ → List ℕ → ℕ → List Product
pieces_from pattern text place = map (λ s. text_product (piece text s)) (gaps (length text) (place - 1) (matches_after false (expression pattern) text place))

-- In brackets.
abbrev pub bracketed_from : List ℕ → List ℕ → ℕ → List Product
bracketed_from pattern text zero = bracket Open ∷ (pieces_from pattern text 0 ++ (bracket Close ∷ []))
bracketed_from pattern text (suc place) = (if nat_lt (end_place text) place then [] else pieces_from pattern text place) ++ (bracket Close ∷ [])

-- The packets that are still to come.
abbrev pub products_as : Bool → List ℕ → List ℕ → ℕ → List Product
products_as false = pieces_from
products_as true = bracketed_from

-- What becomes of a text from a place on.
abbrev pub split_becoming : Splitting → List ℕ → ℕ → Becoming
split_becoming own text place = only_made (products_as own.bracketed own.pattern text place)

-- All that a network knows of it.
abbrev pub split_rules : Rules (Mapped Splitting)
split_rules = mapper_rules split_mapping

-- The texts between the matches of the pattern in the text: before the first, between each and the next, and behind the last. Where nothing matches
-- that is the whole text.
abbrev pub between : List ℕ → List ℕ → List (List ℕ)
between pattern text = map (piece text) (gaps (length text) 0 (find_all (expression pattern) text))

-- Packets, in brackets where that is asked.
abbrev pub in_brackets : Bool → List Tree → List Tree
in_brackets false packets = packets
in_brackets true packets = packet_of 0 Open [] [] ∷ (packets ++ (packet_of 0 Close [] [] ∷ []))

-- A Normal packet becomes a packet for each text between the matches in its own; a bracket stays as it is.
abbrev pub splits_as : Splitting → Kind → Tree → List Tree
splits_as own Normal packet = in_brackets own.bracketed (map text_packet (between own.pattern (text_of packet)))
splits_as own Open packet = packet ∷ []
splits_as own Close packet = packet ∷ []

-- What a packet becomes.
abbrev pub splits : Splitting → Tree → List Tree
splits own packet = splits_as own (kind_of packet) packet

-- A Split sends what it gets, each Normal packet replaced by the texts between the matches in it.
abbrev pub SplitMeaning : Type 0
SplitMeaning = (own : Splitting) (told : List Happening) → EndedRun split_rules (waiting own) told → sent 0 told ≡ flat_map (splits own) (got 0 told)
