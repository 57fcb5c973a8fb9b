use Rattle.std.proofs.Common.{◌∙◌}
use Rattle.std.proofs.lemmas.Iterator.Adapters.{YieldsList-from_vec}
use Rattle.std.proofs.lemmas.Iterator.Consumers.{YieldsList-end}
use Rattle.flow_load.proofs.Offering.{all-handed, all-offered}
use Rattle.flow_load.proofs.offers.kinds_and_parts.Goals as goal

pub returns-clause-offered : goal.returns-clause-offered
returns-clause-offered g c =
    let gives = c.into_iter-kind-iterator.ensures.into_iter_gives in
    let all = YieldsList-end (YieldsList-from_vec {s = c.into_iter-kind-iterator.result} c.args.own.items gives.0 (gives.1 ∙ c.args.own.ok.0)) c.loop-kind.yielded c.loop-kind.kind-iterator c.loop-kind.yielded_by
    c.next.result c.next.new.self c.in-None.is c.next.ensures.steps in
    all-offered c.args.own.items c.loop-kind.yielded c.loop-kind.kinds.items c.loop-kind.parts.items all.0 c.loop-kind.invariant.kinds c.loop-kind.invariant.parts

pub returns-clause-parts : goal.returns-clause-parts
returns-clause-parts g c =
    let gives = c.into_iter-kind-iterator.ensures.into_iter_gives in
    let all = YieldsList-end (YieldsList-from_vec {s = c.into_iter-kind-iterator.result} c.args.own.items gives.0 (gives.1 ∙ c.args.own.ok.0)) c.loop-kind.yielded c.loop-kind.kind-iterator c.loop-kind.yielded_by
    c.next.result c.next.new.self c.in-None.is c.next.ensures.steps in
    all-handed c.args.own.items c.loop-kind.yielded c.loop-kind.parts.items all.0 c.loop-kind.invariant.parts
