-- The component that sends what a template makes of each match of a pattern.
use Rattle.std.specs.Prelude.{◌≡◌, ℕ, ◌+◌, false, List, [], ◌∷◌, map, Option, Some, None}
use Rattle.std.specs.List.{flat_map}
use Rattle.regex.specs.Patterns.{Match, find_all, span}
use Rattle.regex.specs.Search.{next_match, matches_after}
use Rattle.flow_packet.specs.declared.packet.Kind.{Kind}
use Rattle.flow_packet.specs.declared.packet.Kind.TheVariants.{Normal, Open, Close}
use Rattle.flow_packet.specs.Tree.{Tree, kind_of, text_of}
use Rattle.flow_component.specs.Laws.{Rules}
use Rattle.flow_component.specs.Happenings.{Happening}
use Rattle.flow_component.specs.Runs.{EndedRun, got, sent, text_packet}
use Rattle.flow_pattern.specs.Pattern.{Replacement, expression}
use Rattle.flow_pattern.specs.Template.{filled, whole_match}
use Rattle.flow_map.specs.Becoming.{Becoming}
use Rattle.flow_map.specs.Mapping.{Mapping, Mapped, Next, Over, More, waiting, mapper_rules}
use Rattle.flow_map.specs.Plain.{plain_mapping}
use Rattle.flow_find.specs.Pieces.{piece, text_product, end_place, only_made}

-- What the template makes of the next match is sent, and then what comes behind that match.
abbrev pub sends_match : Replacement → List ℕ → Option Match → Next
sends_match by text None = Over
sends_match by text (Some match) = More (text_product (filled by text match)) (match.trace.end + 1)

-- What comes next of a text: at place 0 its first match, and at place n + 1 the one behind a match that ended at n.
abbrev pub find_next : Replacement → List ℕ → ℕ → Next
find_next by text place = sends_match by text (next_match false (expression by.pattern) text place)

-- How a Find maps.
abbrev pub find_mapping : Mapping Replacement
find_mapping = plain_mapping (λ by text. end_place text) find_next

-- What becomes of a text from a place on: a packet for each match that is still to come.
abbrev pub find_becoming : Replacement → List ℕ → ℕ → Becoming
find_becoming by text place = only_made (map (λ match. text_product (filled by text match)) (matches_after false (expression by.pattern) text place))

-- All that a network knows of it.
abbrev pub find_rules : Rules (Mapped Replacement)
find_rules = mapper_rules find_mapping

-- What the template makes of the matches of the pattern in the text, from the left and without overlaps.
abbrev pub found : Replacement → List ℕ → List (List ℕ)
found by text = map (filled by text) (find_all (expression by.pattern) text)

-- A Normal packet becomes a packet for each match in its text; a bracket stays as it is.
abbrev pub finds_as : Replacement → Kind → Tree → List Tree
finds_as by Normal packet = map text_packet (found by (text_of packet))
finds_as by Open packet = packet ∷ []
finds_as by Close packet = packet ∷ []

-- What a packet becomes.
abbrev pub finds : Replacement → Tree → List Tree
finds by packet = finds_as by (kind_of packet) packet

-- A Find sends what it gets, each Normal packet replaced by what its template makes of the matches in it.
abbrev pub FindMeaning : Type 0
FindMeaning = (by : Replacement) (told : List Happening) → EndedRun find_rules (waiting by) told → sent 0 told ≡ flat_map (finds by) (got 0 told)

-- The template for the whole match makes of it the piece of the text where it lies.
abbrev pub WholeMatches : Type 0
WholeMatches = (pattern text : List ℕ) (match : Match) → filled (record { pattern = pattern; with = whole_match }) text match ≡ piece text (span match)
