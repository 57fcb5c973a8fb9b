-- That a Split goes on within a text, and what becomes of it so.
use Rattle.std.proofs.Common.{◌≡◌, ℕ, zero, suc, ◌+◌, ◌-◌, ◌≤◌, Bool, true, false, List, [], ◌∷◌, ◌++◌, map, length, nat_lt, if◌then◌else◌, Option, Some, None, option_map, refl, sym, ap, ◌∙◌, arith, lt-ltb, le-ltb}
use Rattle.std.proofs.lemmas.Bool.{cond-true, cond-false}
use Rattle.regex.specs.Patterns.{Match, span}
use Rattle.regex.specs.Search.{next_match, matches_after, gaps}
use Rattle.regex.proofs.SearchLemmas.{next_within, matches_after_none, matches_after_some}
use Rattle.flow_packet.specs.declared.packet.Kind.TheVariants.{Open, Close}
use Rattle.flow_pattern.specs.Pattern.{expression}
use Rattle.flow_map.specs.Mapping.{Product, IsWithin, IsMapping, Last}
use Rattle.flow_map.specs.Becoming.{with_next, IsBecoming}
use Rattle.flow_map.specs.PlainLaws.{plain_laws}
use Rattle.flow_find.specs.Pieces.{piece, text_product, end_place, only_made}
use Rattle.flow_find.specs.Split.{bracket, sends_before, inside, next_as, last_as, split_mapping, pieces_from, bracketed_from, products_as, split_becoming}

module _ (pattern text : List ℕ) where
  match-end : (place : ℕ) (m : Match) → next_match false (expression pattern) text place ≡ Some m → m.trace.end + 1 ≤ end_place text
  match-end place m e = omega (arith, next_within (expression pattern) text false place m e)

  -- The pieces, without brackets.
  within : (place : ℕ) (o : Option Match) → next_match false (expression pattern) text place ≡ o → IsWithin (end_place text) (sends_before text (place - 1) (option_map span o))
  within place None e = tt
  within place (Some m) e = match-end place m e

  none-left : (place : ℕ) → next_match false (expression pattern) text place ≡ None → pieces_from pattern text place ≡ text_product (piece text (place - 1, length text)) ∷ []
  none-left place e = ap (λ (ms : List Match). map (λ s. text_product (piece text s)) (gaps (length text) (place - 1) ms)) (matches_after_none (expression pattern) text false place e)

  some-left : (place : ℕ) (m : Match) → next_match false (expression pattern) text place ≡ Some m → pieces_from pattern text place ≡ text_product (piece text (place - 1, m.start)) ∷ pieces_from pattern text (m.trace.end + 1)
  some-left place m e =
      let back : m.trace.end ≡ m.trace.end + 1 - 1 = omega arith in
      ap (λ (ms : List Match). map (λ s. text_product (piece text s)) (gaps (length text) (place - 1) ms)) (matches_after_some (expression pattern) text false place m e)
      ∙ ap (λ (n : ℕ). text_product (piece text (place - 1, m.start)) ∷ map (λ s. text_product (piece text s)) (gaps (length text) n (matches_after false (expression pattern) text (m.trace.end + 1)))) back

  becomes : (place : ℕ) (o : Option Match) → next_match false (expression pattern) text place ≡ o
      → only_made (pieces_from pattern text place) ≡ with_next (sends_before text (place - 1) (option_map span o)) (λ p. only_made (pieces_from pattern text p))
  becomes place None e = ap only_made (none-left place e)
  becomes place (Some m) e = ap only_made (some-left place m e)

  -- In brackets.
  at-place : (place : ℕ) → place ≤ end_place text → bracketed_from pattern text (suc place) ≡ pieces_from pattern text place ++ (bracket Close ∷ [])
  at-place place w = ap (λ (x : List Product). x ++ (bracket Close ∷ [])) (cond-false (nat_lt (end_place text) place) [] (pieces_from pattern text place) (le-ltb (end_place text) place w))

  past-all : bracketed_from pattern text (end_place text + 2) ≡ bracket Close ∷ []
  past-all =
      let next : end_place text + 2 ≡ suc (end_place text + 1) = omega arith in
      ap (bracketed_from pattern text) next
      ∙ ap (λ (x : List Product). x ++ (bracket Close ∷ [])) (cond-true (nat_lt (end_place text) (end_place text + 1)) [] (pieces_from pattern text (end_place text + 1)) (lt-ltb (end_place text) (end_place text + 1) (omega arith)))

  inside-within : (place : ℕ) (o : Option Match) → next_match false (expression pattern) text place ≡ o → IsWithin (end_place text + 2) (inside text (sends_before text (place - 1) (option_map span o)))
  inside-within place None e = omega arith
  inside-within place (Some m) e = omega (arith, match-end place m e)

  bracketed-within : (place : ℕ) (past : Bool) → nat_lt (end_place text) place ≡ past
      → IsWithin (end_place text + 2) (if past then Last (bracket Close) else inside text (sends_before text (place - 1) (option_map span (next_match false (expression pattern) text place))))
  bracketed-within place true e = tt
  bracketed-within place false e = inside-within place (next_match false (expression pattern) text place) refl

  inside-becomes : (place : ℕ) (o : Option Match) → next_match false (expression pattern) text place ≡ o
      → only_made (pieces_from pattern text place ++ (bracket Close ∷ [])) ≡ with_next (inside text (sends_before text (place - 1) (option_map span o))) (λ p. only_made (bracketed_from pattern text p))
  inside-becomes place None e =
      ap (λ (x : List Product). only_made (x ++ (bracket Close ∷ []))) (none-left place e)
      ∙ ap (λ (x : List Product). only_made (text_product (piece text (place - 1, length text)) ∷ x)) (sym past-all)
  inside-becomes place (Some m) e =
      let next : m.trace.end + 1 + 1 ≡ suc (m.trace.end + 1) = omega arith in
      ap (λ (x : List Product). only_made (x ++ (bracket Close ∷ []))) (some-left place m e)
      ∙ ap (λ (x : List Product). only_made (text_product (piece text (place - 1, m.start)) ∷ x)) (sym (ap (bracketed_from pattern text) next ∙ at-place (m.trace.end + 1) (match-end place m e)))

  bracketed-becomes : (place : ℕ) (past : Bool) → nat_lt (end_place text) place ≡ past
      → only_made ((if past then [] else pieces_from pattern text place) ++ (bracket Close ∷ []))
      ≡ with_next (if past then Last (bracket Close) else inside text (sends_before text (place - 1) (option_map span (next_match false (expression pattern) text place)))) (λ p. only_made (bracketed_from pattern text p))
  bracketed-becomes place true e = refl
  bracketed-becomes place false e = inside-becomes place (next_match false (expression pattern) text place) refl

within-as : (bracketed : Bool) (pattern text : List ℕ) (place : ℕ) → IsWithin (last_as bracketed text) (next_as bracketed pattern text place)
within-as false pattern text place = within pattern text place (next_match false (expression pattern) text place) refl
within-as true pattern text zero = omega arith
within-as true pattern text (suc place) = bracketed-within pattern text place (nat_lt (end_place text) place) refl

becomes-as : (bracketed : Bool) (pattern text : List ℕ) (place : ℕ) → only_made (products_as bracketed pattern text place) ≡ with_next (next_as bracketed pattern text place) (λ p. only_made (products_as bracketed pattern text p))
becomes-as false pattern text place = becomes pattern text place (next_match false (expression pattern) text place) refl
becomes-as true pattern text zero = ap (λ (x : List Product). only_made (bracket Open ∷ x)) (sym (at-place pattern text 0 (omega arith)))
becomes-as true pattern text (suc place) = bracketed-becomes pattern text place (nat_lt (end_place text) place) refl

-- A Split maps.
pub split_laws : IsMapping split_mapping
split_laws = plain_laws (λ own text. last_as own.bracketed text) (λ own text place. next_as own.bracketed own.pattern text place) (λ own text place w. within-as own.bracketed own.pattern text place)

-- The texts between the matches become of each text by it.
pub split_becomes : IsBecoming split_mapping split_becoming
split_becomes own text place w = becomes-as own.bracketed own.pattern text place
