use Rattle.std.proofs.Common.{sym, refl, ◌∙◌}
use Rattle.std.proofs.lemmas.List.{take_rest}
use Rattle.flow_parse.proofs.Cutting.{text_more, text_more_quote}
use Rattle.flow_fill.proofs.reading.quoted.Goals as goal

pub text-preserved-then-first-ne39 : goal.text-preserved-then-first-ne39
text-preserved-then-first-ne39 c = rw (c.in_ok-push.ensures.ok, take_rest) (text_more c.args.bytes.now c.text.text c.text.rest.now _ c.text.invariant (sym c.is_empty.ensures ∙ c.text-test.true) refl c.if-first-ne39.true)

pub text-preserved : goal.text-preserved
text-preserved c = rw c.in_ok-push-2.ensures.ok (simp take_rest (text_more_quote c.args.bytes.now c.text.text c.text.rest.now c.text.invariant (sym c.is_empty.ensures ∙ c.text-test.true) (simp take_rest at (sym c.is_empty-else-first-ne39.ensures ∙ c.if-not-is_empty.true)) c.if-first-ne39.false (simp take_rest at c.if-more-eq39.true)))
