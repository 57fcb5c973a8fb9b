use Rattle.std.proofs.Common.{◌≡◌, ℕ, List, length, Some, None, option_map, refl, sym, subst, ◌∙◌}
use Rattle.regex.specs.Patterns.{find, span}
use Rattle.regex_dfa.specs.Search.{end_from}
use Rattle.regex_dfa.specs.declared.dfa.Dfa.{Dfa}
use Rattle.regex_meta.proofs.ProgramLemmas.{span_from_least}
use Rattle.flow_pattern.specs.Pattern.{expression}
use Rattle.flow_pattern.proofs.Locating.{span_so, no_span_so, ends_there}
use Rattle.flow_pattern.proofs.locator.Locator.find.Goals as goal

pub returns-in-NoMatch-clause-found : goal.returns-in-NoMatch-clause-found
returns-in-NoMatch-clause-found c =
    let text = c.args.text.now in
    let start = c.args.start in
    let serves = c.self.invariant.3 in
    let none = subst (λ (d : Dfa). end_from d.nfa text (length text) d.nfa.unanchored start ≡ None) (sym serves.is_its) c.in-NoMatch.ensures.end in
    subst (λ (t : List ℕ). None ≡ option_map span (find (expression t) text start)) c.self.view_is
    (no_span_so serves.program c.self.inside.text.items text serves.same (λ k. (c.type_inv.text k).fits) start c.requires.within none)

pub returns-in-At-find_start-clause-found : goal.returns-in-At-find_start-clause-found
returns-in-At-find_start-clause-found c =
    let ends = c.in-At.ensures.end in
    let text = c.args.text.now in
    let start = c.args.start in
    let serves = c.self.invariant.3 in
    let p = serves.program in
    let same = serves.same in
    let end = subst (λ (d : Dfa). end_from d.nfa text (length text) d.nfa.unanchored start ≡ Some c.in-At.end) (sym serves.is_its) (ends.1 refl) in
    let starts = rw (sym serves.is_its) at c.in-At-find_start.ensures.least in
    subst (λ (t : List ℕ). Some (c.in-At-find_start.from, c.in-At.end) ≡ option_map span (find (expression t) text start)) c.self.view_is
    (span_from_least p text start c.in-At.end c.in-At-find_start.from
    (ends_there p c.self.inside.text.items text same (λ k. (c.type_inv.text k).fits) start c.in-At.end ends.2 ends.3 end)
    starts.0 starts.2 starts.3
    ∙ span_so p c.self.inside.text.items text same (λ k. (c.type_inv.text k).fits) start)
