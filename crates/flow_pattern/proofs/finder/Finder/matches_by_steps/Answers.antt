use Rattle.std.proofs.Common.{◌≡◌, ℕ, Bool, false, List, length, is_some, subst, sym, ap, ◌∙◌}
use Rattle.regex_vm.specs.Found.{first_match}
use Rattle.regex.proofs.ReplaceLemmas.{IfOk-weaker}
use Rattle.flow_pattern.specs.Pattern.{matches, expression}
use Rattle.flow_pattern.proofs.Needed.{not_found}
use Rattle.flow_pattern.proofs.Readings.{steps_so}
use Rattle.flow_pattern.proofs.finder.Finder.matches_by_steps.Goals as goal

pub returns-clause-found : goal.returns-clause-found
returns-clause-found c =
    let text = c.args.text.now in
    let serves = c.self.invariant.2 in
    let nfa = c.self.inside.dfa.nfa in
    let same = subst (λ (t : List ℕ). is_some (first_match nfa text (length text) 0 (length text)) ≡ matches t text) c.self.view_is
    (steps_so serves.program c.self.inside.text.items text serves.same (λ k. (c.type_inv.text k).fits) c.self.inside.dfa serves.is_its) in
    IfOk-weaker _ (λ (found : Bool). found ≡ matches c.args.self.now text) (λ found e. e ∙ same) c.is_match.result c.is_match.ensures.found

pub returns-then-are_missing-clause-found : goal.returns-then-are_missing-clause-found
returns-then-are_missing-clause-found c =
    let text = c.args.text.now in
    subst (λ (t : List ℕ). false ≡ matches t text) c.self.view_is
    (sym (ap is_some (not_found (expression c.self.inside.text.items) c.self.inside.needles text (λ k. (c.type_inv.text k).fits) 0 c.self.invariant.4 (c.are_missing.ensures c.if-are_missing.true))))
