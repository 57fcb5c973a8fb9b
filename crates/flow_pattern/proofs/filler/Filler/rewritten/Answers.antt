use Rattle.std.proofs.Common.{◌≡◌, ℕ, List, IfOk, subst, ap, ◌∙◌}
use mathlib.Core.Path.{fun_ext}
use Rattle.regex.specs.Patterns.{Match}
use Rattle.regex.specs.Replace.{group_bytes}
use Rattle.flow_pattern.specs.Pattern.{Replacement, group_names}
use Rattle.flow_pattern.specs.Rewriting.{IsRefilled, IsWrittenAnew}
use Rattle.flow_pattern.specs.Template.{filled, parts_text}
use Rattle.flow_pattern.proofs.Spelling.{spelled_text}
use Rattle.flow_pattern.proofs.filler.Filler.rewritten.Goals as goal

pub returns-clause-rewritten : goal.returns-clause-rewritten
returns-clause-rewritten c =
    let text = c.args.text.now in
    let pattern = c.self.inside.locator in
    let with = c.self.inside.with.items in
    let by : Replacement = record { pattern = pattern; with = with } in
    let parts : Match → List ℕ = λ m. parts_text (group_bytes text m) c.as_slice.result.now in
    let same : parts ≡ filled by text =
    fun_ext (λ m. ap (parts_text (group_bytes text m)) c.as_slice.ensures.value ∙ spelled_text (group_names pattern) (group_bytes text m) with c.self.inside.parts.items c.self.invariant) in
    subst (λ (r : Replacement). IfOk c.refill.result (IsRefilled r text c.args.most)) c.self.view_is
    (subst (λ (w : Match → List ℕ). IfOk c.refill.result (IsWrittenAnew pattern w text c.args.most)) same c.refill.ensures.rewritten)
