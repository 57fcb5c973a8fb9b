use Rattle.std.proofs.Common.{ℕ, false, List, IfSome, subst}
use Rattle.regex.specs.Patterns.{find, span}
use Rattle.regex.specs.Search.{SpansGroups}
use Rattle.regex.proofs.ReplaceLemmas.{IfOk-weaker}
use Rattle.flow_pattern.specs.Pattern.{expression}
use Rattle.flow_pattern.proofs.Groups.{groups_so}
use Rattle.flow_pattern.proofs.locator.Locator.groups.Goals as goal

pub returns-clause-spans : goal.returns-clause-spans
returns-clause-spans c =
    let text = c.args.text.now in
    let start = c.args.start in
    let serves = c.self.invariant.3 in
    IfOk-weaker _ (λ cells. IfSome (find (expression c.args.self.now) text start) (λ m. SpansGroups false text m (span m) cells.items))
    (λ cells told. subst (λ (t : List ℕ). IfSome (find (expression t) text start) (λ m. SpansGroups false text m (span m) cells.items)) c.self.view_is
    (groups_so text cells.items serves.program start c.self.inside.text.items serves.same (λ k. (c.type_inv.text k).fits) c.self.inside.dfa serves.is_its told)) c.groups.result c.groups.ensures.cells
