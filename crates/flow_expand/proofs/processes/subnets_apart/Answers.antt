use Rattle.std.proofs.Common.{sym, ap, ◌∙◌}
use Rattle.std.specs.List.{filter_map, flat_map}
use Rattle.std.proofs.lemmas.List.{map-id}
use Rattle.std.proofs.lemmas.Iterator.Adapters.{YieldsList-from_vec}
use Rattle.std.proofs.lemmas.Iterator.Consumers.{YieldsList-end}
use Rattle.flow_expand.specs.Places.{subnet_place}
use Rattle.flow_expand.specs.Tells.{own_meant, own_process}
use Rattle.flow_expand.proofs.Naming.{subnet_apart, plain_apart}
use Rattle.flow_expand.proofs.processes.subnets_apart.Goals as goal

pub list-preserved-in-Continue-1 : goal.list-preserved-in-Continue-1
list-preserved-in-Continue-1 c =
    let both = subnet_apart c.args.text.now c.in-Some.process c.list.plain.items c.list.subnets.items c.list.yielded c.list.invariant.0 c.list.invariant.1 c.subnet_named.result
    (ap (subnet_place c.args.text.now) (sym c.as_slice.ensures) ∙ sym c.subnet_named.ensures) (sym c.if-is_some.ensures) in
    (both.0, ap (flat_map (own_meant c.args.text.now)) c.in_ok-push.ensures.items ∙ both.1)

pub list-preserved : goal.list-preserved
list-preserved c =
    let both = plain_apart c.args.text.now c.in-Some.process c.list.plain.items c.list.subnets.items c.list.yielded c.list.invariant.0 c.list.invariant.1 c.subnet_named.result
    (ap (subnet_place c.args.text.now) (sym c.as_slice.ensures) ∙ sym c.subnet_named.ensures) (sym c.if-is_some.ensures) in
    (c.in_ok-push-2.ensures.items ∙ both.0, both.1)

pub returns-clause-plain : goal.returns-clause-plain
returns-clause-plain c =
    let g = c.into_iter-process-iterator.ensures.into_iter_gives in
    let t = YieldsList-end (YieldsList-from_vec {s = c.into_iter-process-iterator.result} c.args.list.items g.0 (g.1 ∙ c.args.list.ok.0)) c.list.yielded c.list.process-iterator c.list.yielded_by c.next.result c.next.new.self c.in-None.is c.next.ensures.steps in
    c.list.invariant.0 ∙ ap (filter_map (own_process c.args.text.now)) (sym (map-id c.list.yielded) ∙ t.0)

pub returns-clause-meant : goal.returns-clause-meant
returns-clause-meant c =
    let g = c.into_iter-process-iterator.ensures.into_iter_gives in
    let t = YieldsList-end (YieldsList-from_vec {s = c.into_iter-process-iterator.result} c.args.list.items g.0 (g.1 ∙ c.args.list.ok.0)) c.list.yielded c.list.process-iterator c.list.yielded_by c.next.result c.next.new.self c.in-None.is c.next.ensures.steps in
    c.list.invariant.1 ∙ ap (flat_map (own_meant c.args.text.now)) (sym (map-id c.list.yielded) ∙ t.0)
