use Rattle.std.proofs.Common.{◌≡◌, ℕ, List, Option, None, length, option_map, subst, sym, ap, ◌∙◌}
use Rattle.regex.specs.Patterns.{find, span}
use Rattle.regex.proofs.ReplaceLemmas.{IfOk-weaker}
use Rattle.regex_vm.specs.Found.{first_match}
use Rattle.flow_pattern.specs.Pattern.{expression}
use Rattle.flow_pattern.proofs.Locating.{steps_so}
use Rattle.flow_pattern.proofs.Needed.{not_found}
use Rattle.flow_pattern.proofs.locator.Locator.find_by_steps.Goals as goal

pub returns-clause-found : goal.returns-clause-found
returns-clause-found c =
    let text = c.args.text.now in
    let start = c.args.start in
    let serves = c.self.invariant.3 in
    let nfa = c.self.inside.dfa.nfa in
    let same = subst (λ (t : List ℕ). option_map span (first_match nfa text (length text) start (length text)) ≡ option_map span (find (expression t) text start)) c.self.view_is
    (steps_so serves.program c.self.inside.text.items text serves.same (λ k. (c.type_inv.text k).fits) start c.self.inside.dfa serves.is_its) in
    IfOk-weaker _ (λ (o : Option (ℕ × ℕ)). o ≡ option_map span (find (expression c.args.self.now) text start)) (λ o e. e ∙ same) c.find.result c.find.ensures.found

pub returns-then-are_missing-clause-found : goal.returns-then-are_missing-clause-found
returns-then-are_missing-clause-found c =
    let text = c.args.text.now in
    let start = c.args.start in
    subst (λ (t : List ℕ). None ≡ option_map span (find (expression t) text start)) c.self.view_is
    (sym (ap (option_map span) (not_found (expression c.self.inside.text.items) c.self.inside.needles text (λ k. (c.type_inv.text k).fits) start c.self.invariant.5 (c.are_missing.ensures c.if-are_missing.true))))
