use Rattle.std.proofs.Common.{ℕ, List, None, sym, subst}
use Rattle.regex_literal.specs.Find.{FindsNeedles}
use Rattle.flow_pattern.proofs.Needed.{nowhere}
use Rattle.flow_pattern.proofs.needles.Needles.are_missing.Goals as goal

pub returns-in-Missing : goal.returns-in-Missing
returns-in-Missing c h =
    let text = c.args.text.now in
    let start = c.args.start in
    nowhere c.args.self.now c.in-Some.sought.value text start (sym (rw c.in-Some.is at c.self.view_is))
    (subst (λ (needles : List (List ℕ)). FindsNeedles text needles start None) c.deref.ensures c.in-Missing.ensures.bounded)
