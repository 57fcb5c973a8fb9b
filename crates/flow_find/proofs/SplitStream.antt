-- What a Split makes of its stream.
use Rattle.std.proofs.Common.{◌≡◌, ℕ, Bool, true, false, List, [], ◌∷◌, ◌++◌, map, length, refl, ap, ◌∙◌, append-nil}
use Rattle.std.proofs.lemmas.List.{map-append}
use Rattle.std.specs.List.{flat_map}
use Rattle.regex.specs.Patterns.{Match}
use Rattle.regex.specs.Search.{gaps}
use Rattle.regex.proofs.SearchLemmas.{matches_after_bytes}
use Rattle.flow_packet.specs.declared.packet.Kind.{Kind}
use Rattle.flow_packet.specs.declared.packet.Kind.TheVariants.{Normal, Open, Close}
use Rattle.flow_packet.specs.Tree.{Tree, kind_of, text_of, packet_of}
use Rattle.flow_component.specs.Runs.{got, text_packet}
use Rattle.flow_pattern.specs.Pattern.{expression}
use Rattle.flow_map.specs.Becoming.{packet_made}
use Rattle.flow_map.specs.Plain.{became_as, became}
use Rattle.flow_map.proofs.PlainStream.{plain_meaning}
use Rattle.flow_find.specs.Pieces.{piece, text_product}
use Rattle.flow_find.specs.Split.{Splitting, bracket, next_as, last_as, pieces_from, products_as, split_becoming, between, in_brackets, splits_as, splits, SplitMeaning}
use Rattle.flow_find.specs.SplitLaws.{split_laws, split_becomes}
use Rattle.flow_find.proofs.Made.{made}

pieces : (pattern text : List ℕ) → map packet_made (pieces_from pattern text 0) ≡ map text_packet (between pattern text)
pieces pattern text =
    ap (λ (ms : List Match). map packet_made (map (λ s. text_product (piece text s)) (gaps (length text) 0 ms))) (matches_after_bytes (expression pattern) text)
    ∙ made (piece text) _

in-brackets : (bracketed : Bool) (pattern text : List ℕ) → map packet_made (products_as bracketed pattern text 0) ≡ in_brackets bracketed (map text_packet (between pattern text))
in-brackets false pattern text = pieces pattern text
in-brackets true pattern text =
    ap (λ (ts : List Tree). packet_of 0 Open [] [] ∷ ts) (map-append packet_made (pieces_from pattern text 0) (bracket Close ∷ []))
    ∙ ap (λ (ts : List Tree). packet_of 0 Open [] [] ∷ (ts ++ (packet_of 0 Close [] [] ∷ []))) (pieces pattern text)

as-kind : (own : Splitting) (kind : Kind) (packet : Tree) → became_as (λ text. split_becoming own text 0) kind packet ≡ splits_as own kind packet
as-kind own Normal packet = append-nil _ ∙ in-brackets own.bracketed own.pattern (text_of packet)
as-kind own Open packet = refl
as-kind own Close packet = refl

each : (own : Splitting) (x : List Tree) → flat_map (became (λ text. split_becoming own text 0)) x ≡ flat_map (splits own) x
each own [] = refl
each own (packet ∷ x) = λ i. as-kind own (kind_of packet) packet i ++ each own x i

-- A Split sends the texts between the matches in what it gets.
pub split_meaning : SplitMeaning
split_meaning own told ended =
    plain_meaning (λ own text. last_as own.bracketed text) (λ own text place. next_as own.bracketed own.pattern text place) split_becoming split_laws split_becomes own told ended ∙ each own (got 0 told)
