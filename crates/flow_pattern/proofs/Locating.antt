-- What the two automata find is where the pattern's leftmost match lies; and what comes after a match, by the search from its end.
use Rattle.std.proofs.Common.{◌≡◌, ℕ, ◌-◌, ◌<◌, ◌≤◌, false, List, length, All, Option, Some, None, IfSome, option_map, get_or, refl, sym, ap, ◌∙◌, subst, arith}
use Rattle.std.proofs.lemmas.List.{get_or_default}
use Rattle.std.proofs.lemmas.Option.{none-some, same_Some}
use Rattle.regex.specs.Patterns.{Re, Match, SameCaptures, find, span}
use Rattle.regex.specs.Search.{next_match, LiesWithin}
use Rattle.regex.proofs.ForCallers.{span_alike}
use Rattle.regex.proofs.SearchLemmas.{leftmost_past, leftmost_within, next_same, next_later}
use Rattle.regex_dfa.specs.Search.{end_from}
use Rattle.regex_dfa.specs.declared.dfa.Dfa.{Dfa}
use Rattle.regex_vm.specs.Found.{first_match}
use Rattle.regex_meta.specs.Programs.{pattern_of, leftmost}
use Rattle.regex_meta.specs.Located.{EndsAt}
use Rattle.regex_meta.specs.declared.program.Program.{Program}
use Rattle.regex_meta.proofs.ProgramLemmas.{none_of_option_map, value_of_option_map, first_match-leftmost, unanchored_end, leftmost_no_end}
use Rattle.flow_pattern.specs.Pattern.{expression}

module _ (p : Program) (pattern text : List ℕ) (same : SameCaptures (pattern_of p) (expression pattern)) (bytes : (k : ℕ) → get_or text k 0 < 256) (start : ℕ) where
  small : All (λ b. b < 256) text
  small = λ k d h. rw (get_or_default text k d 0 h) (bytes k)

  -- A search by the program finds the span that the pattern has.
  pub span_so : option_map span (leftmost p text start) ≡ option_map span (find (expression pattern) text start)
  span_so = span_alike same text bytes false start

  -- By steps the same is found.
  pub steps_so : (dfa : Dfa) → p.dfa ≡ dfa → option_map span (first_match dfa.nfa text (length text) start (length text)) ≡ option_map span (find (expression pattern) text start)
  steps_so dfa its =
      subst (λ (d : Dfa). option_map span (first_match d.nfa text (length text) start (length text)) ≡ option_map span (find (expression pattern) text start)) its
      (ap (option_map span) (first_match-leftmost p text start) ∙ span_so)

  -- The automaton found no end.
  pub no_span_so : start ≤ length text → end_from p.dfa.nfa text (length text) p.dfa.nfa.unanchored start ≡ None →
      None ≡ option_map span (find (expression pattern) text start)
  no_span_so inside none = sym (ap (option_map span) (leftmost_no_end p text small start inside none)) ∙ span_so

  -- It found an end: the leftmost match ends there.
  pub ends_there : (end : ℕ) → start ≤ end → end ≤ length text → end_from p.dfa.nfa text (length text) p.dfa.nfa.unanchored start ≡ Some end →
      EndsAt (pattern_of p) text start start end
  ends_there end ordered inside ends =
      record { same = refl; ends = sym (unanchored_end p text small start (omega arith)) ∙ ends; ordered = ordered; inside = inside }

module _ (re : Re) (text : List ℕ) where
  -- A span that was found lies behind the start of the search, in the text.
  pub found_lies : (start : ℕ) (s : ℕ × ℕ) → Some s ≡ option_map span (find re text start) → LiesWithin start (length text) s
  found_lies start s e =
      let v = value_of_option_map span (find re text start) s (sym e) in
      subst (LiesWithin start (length text)) v.2 (leftmost_within re text false start v.0 v.1)

  module _ (after : ℕ) where
    -- From the end of the last match on there is none.
    pub next_none : None ≡ option_map span (find re text (after - 1)) → None ≡ option_map span (next_match false re text after)
    next_none e =
        let none = none_of_option_map span _ (sym e) in
        sym (ap (option_map span) (next_same re text false after (λ x f. absurd (none-some x (sym none ∙ f))) ∙ none))

    -- There is one, which isn't empty at that place.
    pub next_here : (s : ℕ × ℕ) → Some s ≡ option_map span (find re text (after - 1)) → after ≤ s.1 →
        Some s ≡ option_map span (next_match false re text after)
    next_here s e further =
        let v = value_of_option_map span (find re text (after - 1)) s (sym e) in
        let ends : v.0.trace.end ≡ s.1 = ap (λ x. x.1) v.2 in
        let next = next_same re text false after (λ x f. subst (λ (y : Match). after ≤ y.trace.end) (same_Some _ _ (sym v.1 ∙ f)) (omega arith)) in
        sym (ap (option_map span) (next ∙ v.1) ∙ ap Some v.2)

    -- There is one that is: the search goes on behind it.
    pub next_beyond : (s : ℕ × ℕ) → Some s ≡ option_map span (find re text (after - 1)) → s.1 < after →
        option_map span (find re text after) ≡ option_map span (next_match false re text after)
    next_beyond s e short =
        let v = value_of_option_map span (find re text (after - 1)) s (sym e) in
        let ends : v.0.trace.end ≡ s.1 = ap (λ x. x.1) v.2 in
        ap (option_map span) (sym (next_later re text false after v.0 v.1 (omega arith)))

    -- Behind the end of the text there is none.
    pub none_beyond : length text < after → None ≡ option_map span (find re text after)
    none_beyond past = sym (ap (option_map span) (leftmost_past re text false after past))

    -- What was found behind it lies behind it.
    pub beyond_lies : (o : Option (ℕ × ℕ)) → o ≡ option_map span (find re text after) →
        IfSome o (λ s. LiesWithin (after - 1) (length text) s × (after ≤ s.1))
    beyond_lies None e = tt
    beyond_lies (Some s) e = let lies = found_lies after s e in ((omega (arith, lies), lies.1, lies.2), omega (arith, lies))
