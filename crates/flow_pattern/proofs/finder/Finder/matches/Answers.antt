use Rattle.std.proofs.Common.{◌≡◌, ℕ, List, length, None, IsSome, true, false, subst, sym, ◌∙◌}
use Rattle.std.proofs.lemmas.Bool.{false≢true}
use Rattle.regex_dfa.specs.Search.{end_from}
use Rattle.regex_dfa.specs.declared.dfa.Dfa.{Dfa}
use Rattle.flow_pattern.specs.Pattern.{matches}
use Rattle.flow_pattern.proofs.Readings.{ends_so, none_so}
use Rattle.flow_pattern.proofs.finder.Finder.matches.Goals as goal

pub unreachable-requires : goal.unreachable-requires
unreachable-requires c = false≢true (sym c.self.invariant.1 ∙ (c.find_end.ensures.idle c.in-Idle.field-0 c.in-Idle.is).0)

pub returns-in-At-clause-found : goal.returns-in-At-clause-found
returns-in-At-clause-found c =
    let text = c.args.text.now in
    let serves = c.self.invariant.2 in
    let ends = subst (λ (d : Dfa). IsSome (end_from d.nfa text (length text) d.nfa.unanchored 0)) (sym serves.is_its) c.in-At.ensures.end.0 in
    subst (λ (t : List ℕ). true ≡ matches t text) c.self.view_is
    (ends_so serves.program c.self.inside.text.items text serves.same (λ k. (c.type_inv.text k).fits) ends)

pub returns-in-NoMatch-clause-found : goal.returns-in-NoMatch-clause-found
returns-in-NoMatch-clause-found c =
    let text = c.args.text.now in
    let serves = c.self.invariant.2 in
    let none = subst (λ (d : Dfa). end_from d.nfa text (length text) d.nfa.unanchored 0 ≡ None) (sym serves.is_its) c.in-NoMatch.ensures.end in
    subst (λ (t : List ℕ). false ≡ matches t text) c.self.view_is
    (none_so serves.program c.self.inside.text.items text serves.same (λ k. (c.type_inv.text k).fits) none)
