-- What is left to write of a text in which something is written for each match, match by match.
use Rattle.std.proofs.Common.{◌≡◌, ℕ, zero, suc, ◌+◌, ◌-◌, ◌<◌, true, false, List, ◌++◌, drop, Some, None, is_some, option_map, sym, ap, ◌∙◌, arith, slice_range}
use Rattle.regex.specs.Patterns.{Re, Match, find, find_all, span}
use Rattle.regex.specs.Search.{next_match, matches_after}
use Rattle.regex.specs.Replace.{replaced_by}
use Rattle.regex.proofs.SearchLemmas.{matches_after_none, matches_after_some, matches_after_bytes}
use Rattle.regex_meta.proofs.ProgramLemmas.{none_of_option_map, value_of_option_map}

module _ (re : Re) (written : Match → List ℕ) (text : List ℕ) where
  -- What is left to write behind the match that ended at `after - 1`; for 0, of which there is none, the whole.
  abbrev pub left : ℕ → List ℕ
  left after = replaced_by written text (after - 1) (matches_after false re text after)

  -- Before the first it is all.
  pub all_left : left 0 ≡ replaced_by written text 0 (find_all re text)
  all_left = ap (replaced_by written text 0) (matches_after_bytes re text)

  -- A match: what lies before it, what is written for it, and what is left then.
  pub match_left : (after : ℕ) (m : Match) (s : ℕ × ℕ) → next_match false re text after ≡ Some m → span m ≡ s →
      left after ≡ (slice_range text (after - 1) s.0 ++ written m) ++ left (s.1 + 1)
  unfolding replaced_by
  match_left after m s next its =
      let back : s.1 ≡ s.1 + 1 - 1 = omega arith in
      ap (replaced_by written text (after - 1)) (matches_after_some re text false after m next)
      ∙ ap (λ (x : ℕ × ℕ). (slice_range text (after - 1) x.0 ++ written m) ++ replaced_by written text x.1 (matches_after false re text (x.1 + 1))) its
      ∙ ap (λ n. (slice_range text (after - 1) s.0 ++ written m) ++ replaced_by written text n (matches_after false re text (s.1 + 1))) back

  -- No match: the rest of the text.
  pub rest_left : (after : ℕ) → None ≡ option_map span (next_match false re text after) → left after ≡ drop (after - 1) text
  unfolding replaced_by
  rest_left after e = ap (replaced_by written text (after - 1)) (matches_after_none re text false after (none_of_option_map span _ (sym e)))

module _ (re : Re) (text : List ℕ) where
  -- A match comes: then there is one in the text.
  pub some_in : (after : ℕ) (s : ℕ × ℕ) → Some s ≡ option_map span (next_match false re text after) →
      (0 < after → is_some (find re text 0) ≡ true) → is_some (find re text 0) ≡ true
  unfolding next_match
  some_in zero s e before = let v = value_of_option_map span (find re text 0) s (sym e) in ap is_some v.1
  some_in (suc n) s e before = before (omega arith)

  -- None comes at the beginning: then there is none.
  pub none_in : None ≡ option_map span (next_match false re text 0) → is_some (find re text 0) ≡ false
  unfolding next_match
  none_in e = ap is_some (none_of_option_map span (find re text 0) (sym e))
