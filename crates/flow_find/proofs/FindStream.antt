-- What a Find makes of its stream.
use Rattle.std.proofs.Common.{◌≡◌, List, [], ◌∷◌, ◌++◌, map, refl, ap, ◌∙◌, append-nil}
use Rattle.std.specs.List.{flat_map}
use Rattle.regex.specs.Patterns.{Match}
use Rattle.regex.specs.Templates.{written_after, name_at, group_called, number_in}
use Rattle.regex.proofs.SearchLemmas.{matches_after_bytes}
use Rattle.flow_packet.specs.declared.packet.Kind.{Kind}
use Rattle.flow_packet.specs.declared.packet.Kind.TheVariants.{Normal, Open, Close}
use Rattle.flow_packet.specs.Tree.{Tree, kind_of, text_of}
use Rattle.flow_component.specs.Runs.{got}
use Rattle.flow_pattern.specs.Pattern.{Replacement, expression}
use Rattle.flow_pattern.specs.Template.{filled}
use Rattle.flow_map.specs.Becoming.{packet_made}
use Rattle.flow_map.specs.Plain.{became_as, became}
use Rattle.flow_map.proofs.PlainStream.{plain_meaning}
use Rattle.flow_find.specs.Pieces.{text_product, end_place}
use Rattle.flow_find.specs.Find.{find_next, find_becoming, finds_as, finds, FindMeaning, WholeMatches}
use Rattle.flow_find.specs.FindLaws.{find_laws, find_becomes}
use Rattle.flow_find.proofs.Made.{made}

as-kind : (by : Replacement) (kind : Kind) (packet : Tree) → became_as (λ text. find_becoming by text 0) kind packet ≡ finds_as by kind packet
as-kind by Normal packet =
    let text = text_of packet in
    append-nil _ ∙ ap (λ (ms : List Match). map packet_made (map (λ m. text_product (filled by text m)) ms)) (matches_after_bytes (expression by.pattern) text) ∙ made (filled by text) _
as-kind by Open packet = refl
as-kind by Close packet = refl

each : (by : Replacement) (x : List Tree) → flat_map (became (λ text. find_becoming by text 0)) x ≡ flat_map (finds by) x
each by [] = refl
each by (packet ∷ x) = λ i. as-kind by (kind_of packet) packet i ++ each by x i

-- A Find sends what its template makes of the matches in what it gets.
pub find_meaning : FindMeaning
find_meaning by told ended = plain_meaning (λ by text. end_place text) find_next find_becoming find_laws find_becomes by told ended ∙ each by (got 0 told)

-- The template for the whole match makes of it what it is.
pub whole_matches : WholeMatches
unfolding written_after name_at group_called number_in
whole_matches pattern text match = append-nil _
