use Rattle.std.proofs.Common.{List, ℕ, ◌∙◌, ap, sym, bytes_eq}
use Rattle.flow_drawing.proofs.Options.{name-here, name-none, name-past}
use Rattle.flow_drawing.proofs.settings.option_name.Goals as goal

pub loop-kind-preserved : goal.loop-kind-preserved
loop-kind-preserved c =
    name-past c.args.kinds.now c.loop-kind.kind-index c.kind-item.result c.args.name.now c.args.place _ c.loop-kind-test.true c.kind-item.is
    (ap (λ (l : List ℕ). bytes_eq l c.args.name.now) (sym c.as_slice.ensures) ∙ sym c.eq-same.ensures ∙ c.if-same.false) c.loop-kind.invariant

pub returns-then-same : goal.returns-then-same
returns-then-same c =
    name-here c.args.kinds.now c.loop-kind.kind-index c.kind-item.result c.args.name.now c.args.place _ _ c.loop-kind-test.true c.kind-item.is
    (ap (λ (l : List ℕ). bytes_eq l c.args.name.now) (sym c.as_slice.ensures) ∙ sym c.eq-same.ensures ∙ c.if-same.true) c.option_at.ensures c.loop-kind.invariant

pub returns : goal.returns
returns c = name-none c.args.kinds.now c.loop-kind.kind-index c.args.name.now c.args.place _ c.loop-kind-test.false c.loop-kind.invariant
