use Rattle.std.proofs.Common.{◌-◌, List, ℕ, ap, sym, ◌∙◌}
use Rattle.flow_flat.specs.Subnets as subnets
use Rattle.flow_expand.proofs.Places.{meant_inside, means_too}
use Rattle.flow_expand.proofs.meaning.+meant.Goals as goal

pub returns-in-Some : goal.returns-in-Some
returns-in-Some t c = means_too _ (subnets.meant c.args.text.now (c.args.levels - 1) c.as_slice-in-Some-2.result.now c.in-Some.inner.now c.args.input c.in-Some-port_inside.process.now c.in-Some-port_inside.next.now) c.meant.result
    (meant_inside c.args.text.now c.args.levels c.args.prefix.now c.args.part.now c.in-Some.inner.now c.args.input c.args.name.now c.args.port.now (c.in-Some-port_inside.process.now, c.in-Some-port_inside.next.now) c.if-levels-gt0.true
    (ap (subnets.subnet_at c.args.text.now c.args.part.now) (sym c.as_slice.ensures) ∙ c.in-Some.ensures) c.in-Some-port_inside.ensures
    ∙ ap (λ (b : List ℕ). subnets.meant c.args.text.now (c.args.levels - 1) b c.in-Some.inner.now c.args.input c.in-Some-port_inside.process.now c.in-Some-port_inside.next.now)
    (sym (c.as_slice-in-Some-2.ensures.value ∙ c.in_ok-begins.ensures ∙ ap (subnets.within c.args.prefix.now) c.as_slice-in-Some.ensures))) c.meant.ensures
