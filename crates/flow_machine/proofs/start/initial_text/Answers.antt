use Rattle.std.proofs.Common.{◌≡◌, ◌∙◌, sym}
use Rattle.flow_model.specs.Plans.{text_at}
use Rattle.flow_machine.proofs.PlanLemmas.{text-here, text-next, text-over, text-ok}
use Rattle.flow_machine.proofs.start.initial_text.Goals as goal

pub loop-initial-preserved : goal.loop-initial-preserved
loop-initial-preserved c = sym (text-next c.args.initials.now c.loop-initial.initial-index c.args.input c.initial-item.result c.loop-initial-test.true c.initial-item.is c.if-initial-input.false) ∙ c.loop-initial.invariant

pub returns-then-initial-input : goal.returns-then-initial-input
returns-then-initial-input c =
    let here = text-here c.args.initials.now c.loop-initial.initial-index c.args.input c.initial-item.result c.loop-initial-test.true c.initial-item.is c.if-initial-input.true in
    text-ok c.from_slice.result (λ v. v.items ≡ c.as_slice.result.now) (λ v. v.items ≡ text_at c.args.initials.now c.args.input) (λ v is. is ∙ c.as_slice.ensures ∙ sym here ∙ c.loop-initial.invariant) c.from_slice.ensures.items

pub returns : goal.returns
returns c = c.new.ensures.items ∙ sym (text-over c.args.initials.now c.loop-initial.initial-index c.args.input c.loop-initial-test.false) ∙ c.loop-initial.invariant
