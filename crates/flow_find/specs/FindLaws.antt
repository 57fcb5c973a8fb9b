-- That a Find goes on within a text, and what becomes of it so.
use Rattle.std.proofs.Common.{◌≡◌, ℕ, false, List, map, Option, Some, None, refl, ap, arith}
use Rattle.regex.specs.Patterns.{Match}
use Rattle.regex.specs.Search.{next_match}
use Rattle.regex.proofs.SearchLemmas.{next_within, matches_after_none, matches_after_some}
use Rattle.flow_pattern.specs.Pattern.{Replacement, expression}
use Rattle.flow_pattern.specs.Template.{filled}
use Rattle.flow_map.specs.Mapping.{IsWithin, IsMapping}
use Rattle.flow_map.specs.Becoming.{with_next, IsBecoming}
use Rattle.flow_map.specs.PlainLaws.{plain_laws}
use Rattle.flow_find.specs.Pieces.{text_product, end_place, only_made}
use Rattle.flow_find.specs.Find.{sends_match, find_next, find_mapping, find_becoming}

module _ (by : Replacement) (text : List ℕ) (place : ℕ) where
  within : (o : Option Match) → next_match false (expression by.pattern) text place ≡ o → IsWithin (end_place text) (sends_match by text o)
  within None e = tt
  within (Some m) e = omega (arith, next_within (expression by.pattern) text false place m e)

  becomes : (o : Option Match) → next_match false (expression by.pattern) text place ≡ o → find_becoming by text place ≡ with_next (sends_match by text o) (find_becoming by text)
  becomes None e = ap (λ (ms : List Match). only_made (map (λ match. text_product (filled by text match)) ms)) (matches_after_none (expression by.pattern) text false place e)
  becomes (Some m) e = ap (λ (ms : List Match). only_made (map (λ match. text_product (filled by text match)) ms)) (matches_after_some (expression by.pattern) text false place m e)

-- A Find maps.
pub find_laws : IsMapping find_mapping
find_laws = plain_laws (λ by text. end_place text) find_next (λ by text place w. within by text place (next_match false (expression by.pattern) text place) refl)

-- What the template makes of the matches becomes of each text by it.
pub find_becomes : IsBecoming find_mapping find_becoming
find_becomes by text place w = becomes by text place (next_match false (expression by.pattern) text place) refl
