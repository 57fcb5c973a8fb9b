use Rattle.std.proofs.Common.{◌≡◌, ℕ, List, ◌∷◌, ◌++◌, Some, [], ap, sym, ◌∙◌, arith}
use Rattle.std.proofs.lemmas.Result.{err_from_is_err_and}
use Rattle.flow_flat.specs.Subnets.{within}
use Rattle.flow_expand.specs.declared.way.Frame.{Frame}
use Rattle.flow_flat.specs.declared.fault.ExpandFault.TheVariants.{Depth}
use Rattle.flow_expand.specs.Places.{subnet_place}
use Rattle.flow_expand.specs.Walks.{next_frame}
use Rattle.flow_expand.proofs.Puts.{puts_none, puts_deep, puts_plain, puts_subnet}
use Rattle.flow_expand.proofs.instances.put_process.Goals as goal

pub returns-in_err-name : goal.returns-in_err-name
returns-in_err-name c =
    let p = err_from_is_err_and c.from_residual.result c.from_residual.ensures.1 in
    rw (p.1, p.2) (puts_none c.args.text.now c.args.kinds.now c.args.frame c.args.process.now c.args.counts.now c.args.counts.now c.args.list.now.items c.args.list.now.items c.args.way.now.items c.args.way.now.items)

pub returns-in_err-push : goal.returns-in_err-push
returns-in_err-push c =
    let p = err_from_is_err_and c.from_residual-in_err-push.result c.from_residual-in_err-push.ensures.1 in
    rw (p.1, p.2) (puts_none c.args.text.now c.args.kinds.now c.args.frame c.args.process.now c.args.counts.now c.args.counts.now c.args.list.now.items c.args.list.now.items c.args.way.now.items c.push.new.self.items)

pub returns-in_err-begins : goal.returns-in_err-begins
returns-in_err-begins c =
    let p = err_from_is_err_and c.from_residual-in_err-begins.result c.from_residual-in_err-begins.ensures.1 in
    rw (p.1, p.2) (puts_none c.args.text.now c.args.kinds.now c.args.frame c.args.process.now c.args.counts.now c.args.counts.now c.args.list.now.items c.args.list.now.items c.args.way.now.items c.args.way.now.items)

pub returns-in_err-push-2 : goal.returns-in_err-push-2
returns-in_err-push-2 c =
    let p = err_from_is_err_and c.from_residual-in_err-push-2.result c.from_residual-in_err-push-2.ensures.1 in
    rw (p.1, p.2) (puts_none c.args.text.now c.args.kinds.now c.args.frame c.args.process.now c.args.counts.now c.args.counts.now c.args.list.now.items c.args.list.now.items c.args.way.now.items c.push-2.new.self.items)

pub returns-in_err-push-3 : goal.returns-in_err-push-3
returns-in_err-push-3 c =
    let p = err_from_is_err_and c.from_residual-in_err-push-3.result c.from_residual-in_err-push-3.ensures.1 in
    rw (p.1, p.2) (puts_none c.args.text.now c.args.kinds.now c.args.frame c.args.process.now c.args.counts.now c.args.counts.now c.args.list.now.items c.args.list.now.items c.args.way.now.items c.push-3.new.self.items)

pub returns-then-too_deep : goal.returns-then-too_deep
returns-then-too_deep c = puts_deep c.args.text.now c.args.kinds.now c.args.frame c.args.process.now c.args.counts.now c.args.counts.now c.args.list.now.items c.args.list.now.items c.args.way.now.items c.args.way.now.items _ (omega (arith, c.len-too_deep.ensures)) (ap Depth c.in_ok-name.ensures)

pub returns-in_default : goal.returns-in_default
returns-in_default c = puts_plain c.args.text.now c.args.kinds.now c.args.frame c.args.process.now c.args.counts.now c.put_plain.new.counts c.args.list.now.items c.put_plain.new.list.items c.args.way.now.items c.push.new.self.items c.put_plain.result c.in_ok-name.name c.in_ok-name.ensures
    (omega (arith, c.len-too_deep.ensures)) (ap (subnet_place c.args.text.now) (sym c.as_slice.ensures) ∙ sym c.subnet_named.ensures ∙ c.in_default.is) c.put_plain.ensures c.in_ok-push.ensures.items

pub returns : goal.returns
returns c = puts_subnet c.args.text.now c.args.kinds.now c.args.frame c.args.process.now c.args.counts.now c.put_subnet.new.counts c.args.list.now.items c.put_subnet.new.list.items c.args.way.now.items c.push-3.new.self.items c.put_subnet.result c.in_ok-name.name c.in-Some.subnet c.part_of-part.result.now c.in_ok-name.ensures
    (omega (arith, c.len-too_deep.ensures)) (ap (subnet_place c.args.text.now) (sym c.as_slice.ensures) ∙ sym c.in-Some.ensures) c.part_of-part.ensures c.put_subnet.ensures
    (c.in_ok-push-3.ensures.items
    ∙ ap (λ (l : List Frame). l ++ record { subnet = Some c.in-Some.subnet; prefix = c.of.result; next = 0 } ∷ []) c.in_ok-push-2.ensures.items
    ∙ ap (λ (b : List ℕ). (c.args.way.now.items ++ next_frame c.args.frame ∷ []) ++ record { subnet = Some c.in-Some.subnet; prefix = b; next = 0 } ∷ []) begins)
  where
    begins : c.of.result ≡ within c.args.frame.prefix c.args.process.now.0
    begins = c.of.ensures ∙ c.in_ok-begins.ensures ∙ ap (λ (l : List ℕ). within l c.as_slice-3.result.now) c.as_slice-2.ensures ∙ ap (within c.args.frame.prefix) c.as_slice-3.ensures
