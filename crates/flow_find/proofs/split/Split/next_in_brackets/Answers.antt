use Rattle.std.proofs.Common.{sym, ap, ◌∙◌, arith}
use Rattle.flow_map.specs.Mapping.{Last, More}
use Rattle.flow_find.proofs.Telling.{opens, closes}
use Rattle.flow_find.proofs.split.Split.next_in_brackets.Goals as goal

pub returns-then-place-eq0-clause-told : goal.returns-then-place-eq0-clause-told
returns-then-place-eq0-clause-told c =
    let text = c.args.text.now in
    (c.bracket.ensures.made text, opens c.args.self.now.pattern text c.args.place (omega (arith, c.if-place-eq0.true)) ∙ ap (λ product. More product 1) (sym (c.bracket.ensures.product text)))

pub returns-then-place-text-clause-told : goal.returns-then-place-text-clause-told
returns-then-place-text-clause-told c =
    let text = c.args.text.now in (
      c.bracket-then-place-text.ensures.made text,
      closes c.args.self.now.pattern text c.args.place (omega (arith, c.if-place-eq0.false)) (omega (arith, c.if-place-text.true))
          ∙ ap Last (sym (c.bracket-then-place-text.ensures.product text)),
    )
