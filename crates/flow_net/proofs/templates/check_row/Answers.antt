use Rattle.std.proofs.Common.{◌≡◌, ◌↔◌, ℕ, List, Option, Some, IsTrue, sym, subst, ◌∙◌}
use Rattle.std.proofs.lemmas.Bool.{false≢true}
use Rattle.flow_plan.specs.Texts.{IsTemplateFor}
use Rattle.flow_plan.specs.Templates.{given_at}
use Rattle.flow_net.proofs.TemplateChecks.{Checked-unfit}
use Rattle.flow_net.proofs.templates.check_row.Goals as goal

pub returns : goal.returns
returns c =
    let given : given_at c.args.place c.args.process.now.options ≡ Some c.in-Some.text.now = sym c.in-Some.ensures in
    let decides = subst (λ (o : Option (List ℕ)). IsTrue c.in_ok-is_template_for.field-0 ↔ IsTemplateFor o c.in-Some.text.now) c.given_at-2.ensures c.in_ok-is_template_for.ensures in
    rw c.in-Template.is
    (Checked-unfit c.args.process.now c.args.place c.args.row.now.spec.name c.in-Template.pattern c.in-Some.text.now c.in_ok-fault.fault given (λ fits. false≢true (sym c.if-branch.false ∙ decides.1 fits)) c.in_ok-fault.ensures)
