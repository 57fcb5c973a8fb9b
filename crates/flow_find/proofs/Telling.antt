-- What is told of what a template makes, in the words of what comes next of a text.
use Rattle.flow_limits.specs.declared.TheConstants.{TEXT_LIMIT}
use Rattle.std.proofs.Common.{◌≡◌, ℕ, suc, ◌+◌, ◌-◌, ◌<◌, ◌≤◌, Bool, true, false, List, Vec, length, Some, None, option_map, if◌then◌else◌, nat_lt, sym, subst, ap, ◌∙◌, arith, lt-ltb}
use Rattle.std.proofs.lemmas.Bool.{cond-true}
use Rattle.std.specs.declared.alloc.Global.{Global}
use Rattle.regex.specs.Patterns.{span}
use Rattle.regex.specs.Search.{next_match, LiesWithin}
use Rattle.flow_pattern.specs.Pattern.{Replacement, expression, matches}
use Rattle.flow_pattern.specs.Rewriting.{IsNextFilled, IsRefilled, Tells as IsTold}
use Rattle.flow_pattern.specs.Template.{filled, refilled}
use Rattle.flow_pattern.specs.declared.replacer.Rewritten.{Rewritten}
use Rattle.flow_pattern.specs.declared.replacer.Rewritten.TheVariants as written
use Rattle.flow_packet.specs.declared.packet.Kind.TheVariants.{Normal, Open, Close}
use Rattle.flow_map.specs.Mapping.{Next, Last, More}
use Rattle.flow_map.specs.Plain.{once_next}
use Rattle.flow_map.specs.Telling.{Tells, MakesLong}
use Rattle.flow_map.specs.declared.mapper.Made.TheVariants as made
use Rattle.flow_map.specs.declared.mapper.Told.{Told}
use Rattle.flow_map.specs.declared.mapper.Told.TheVariants as told
use Rattle.flow_find.specs.Pieces.{piece, text_product, end_place}
use Rattle.flow_find.specs.Cuts.{sends_piece, IsCut}
use Rattle.flow_find.specs.Split.{bracket, sends_before, piece_next, inside, bracketed_next}
use Rattle.flow_find.specs.declared.split.Cut.{Cut}
use Rattle.flow_find.specs.Find.{sends_match, find_next}
use Rattle.flow_find.specs.Rewrite.{rewritten_text}

-- What is told of the next match is what comes next.
pub find_tells : (by : Replacement) (text : List ℕ) (place : ℕ) (new : Rewritten) (end : ℕ) (said : Told) → IsNextFilled by text place TEXT_LIMIT (Some (new, end))
    → ((whole : List ℕ) → IsTold TEXT_LIMIT whole new → Tells text said (More (text_product whole) (end + 1))) → Tells text said (find_next by text place)
find_tells by text place new end said next tells =
    let match = next.0 in
    subst (Tells text said) (ap (λ n. More (text_product (filled by text match)) (n + 1)) next.2.1 ∙ sym (ap (sends_match by text) next.1)) (tells (filled by text match) next.2.0)

module _ (by : Replacement) (text : List ℕ) where
  -- What comes next of a text, by whether the pattern matches in it.
  renewed : (found : Bool) → matches by.pattern text ≡ found → once_next (rewritten_text by text) ≡ once_next (if found then Some (refilled by text) else None)
  renewed found e = ap (λ (b : Bool). once_next (if b then Some (refilled by text) else None)) e

  pub tells_same : IsRefilled by text TEXT_LIMIT written.Same → Tells text told.Itself (once_next (rewritten_text by text))
  tells_same e = renewed false e

  pub tells_new : (new : Vec ℕ Global) → IsRefilled by text TEXT_LIMIT (written.New new) → Tells text (told.Last (made.Text new)) (once_next (rewritten_text by text))
  tells_new new h =
      (omega (arith, ap length h.1.0, h.1.1), renewed true h.0 ∙ ap (λ (x : List ℕ). once_next (Some x)) (sym h.1.0))

  pub tells_long : (count : ℕ) → IsRefilled by text TEXT_LIMIT (written.TooLong count) → Tells text (told.TooLong count) (once_next (rewritten_text by text))
  tells_long count h = (h.1.1, subst (MakesLong count) (sym (renewed true h.0)) (sym h.1.0))

-- A piece that is cut is told.
module _ (text : List ℕ) (cut : Cut) (next : Next) (is : IsCut text cut next) where
  pub tells_more : (place : ℕ) → cut.next ≡ Some place → Tells text (told.More (made.Piece Normal cut.start cut.end) place) next
  tells_more place e = ((is.ordered, is.inside), is.is_next ∙ ap (sends_piece text (cut.start, cut.end)) e)

  pub tells_last : cut.next ≡ None → Tells text (told.Last (made.Piece Normal cut.start cut.end)) next
  tells_last e = ((is.ordered, is.inside), is.is_next ∙ ap (sends_piece text (cut.start, cut.end)) e)

  pub tells_more_inside : (place : ℕ) → cut.next ≡ Some place → Tells text (told.More (made.Piece Normal cut.start cut.end) (place + 1)) (inside text next)
  tells_more_inside place e = ((is.ordered, is.inside), ap (inside text) (is.is_next ∙ ap (sends_piece text (cut.start, cut.end)) e))

  pub tells_last_inside : cut.next ≡ None → Tells text (told.More (made.Piece Normal cut.start cut.end) (length text + 3)) (inside text next)
  tells_last_inside e =
      let place : end_place text + 2 ≡ length text + 3 = omega arith in
      ((is.ordered, is.inside), ap (inside text) (is.is_next ∙ ap (sends_piece text (cut.start, cut.end)) e) ∙ ap (More (text_product (piece text (cut.start, cut.end)))) place)

-- A piece that a search found, and the rest where it found none.
module _ (pattern text : List ℕ) (place start : ℕ) (from : start ≡ place - 1) (within : place ≤ end_place text) where
  pub cuts_rest : None ≡ option_map span (next_match false (expression pattern) text place) → IsCut text (record { start = start; end = length text; next = None }) (piece_next pattern text place)
  cuts_rest found = record {
    ordered = omega (arith, from, within);
    inside = omega arith;
    goes_on = tt;
    is_next = ap (sends_before text (place - 1)) (sym found) ∙ ap (λ n. Last (text_product (piece text (n, length text)))) (sym from);
  }

  pub cuts_piece : (s : ℕ × ℕ) → Some s ≡ option_map span (next_match false (expression pattern) text place) → LiesWithin (place - 1) (length text) s × (place ≤ s.1)
      → IsCut text (record { start = start; end = s.0; next = Some (s.1 + 1) }) (piece_next pattern text place)
  cuts_piece s found lies = record {
    ordered = omega (arith, from, lies.0.0);
    inside = omega (arith, lies.0.1, lies.0.2);
    goes_on = omega (arith, lies.0.2);
    is_next = ap (sends_before text (place - 1)) (sym found) ∙ ap (λ n. More (text_product (piece text (n, s.0))) (s.1 + 1)) (sym from);
  }

-- What comes next in brackets, by where the place is.
module _ (pattern text : List ℕ) (place : ℕ) where
  pub opens : place ≡ 0 → bracketed_next pattern text place ≡ More (bracket Open) 1
  opens first = ap (bracketed_next pattern text) first

  behind : 0 < place → place ≡ suc (place - 1)
  behind later = omega (arith, later)

  pub closes : 0 < place → end_place text < place - 1 → bracketed_next pattern text place ≡ Last (bracket Close)
  closes later past =
      ap (bracketed_next pattern text) (behind later) ∙ cond-true (nat_lt (end_place text) (place - 1)) (Last (bracket Close)) (inside text (piece_next pattern text (place - 1))) (lt-ltb (end_place text) (place - 1) past)
