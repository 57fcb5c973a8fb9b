use Rattle.std.proofs.Common.{ℕ, [], ◌∷◌, ◌∙◌, length, drop, sym, subst, arith, length-append}
use Rattle.std.specs.List.{flat_map}
use Rattle.std.proofs.lemmas.Result.{err_from_is_err_and}
use Rattle.std.proofs.lemmas.Iterator.Adapters.{YieldsList-from_vec}
use Rattle.std.proofs.lemmas.Iterator.Consumers.{YieldsList-turn, YieldsList-end}
use Rattle.flow_expand.specs.Tells.{own_meant}
use Rattle.flow_expand.proofs.Telling.{GoesOn, goes_many, stops_many, told_many}
use Rattle.flow_expand.proofs.plan.put_subnets.Goals as goal

pub subnets-preserved : goal.subnets-preserved
subnets-preserved c =
    let g = c.into_iter-process-iterator.ensures.into_iter_gives in
    let t = YieldsList-turn (YieldsList-from_vec {s = c.into_iter-process-iterator.result} c.args.list.items g.0 (g.1 ∙ c.args.list.ok.0)) c.subnets.yielded c.subnets.process-iterator c.subnets.yielded_by c.next.result c.next.new.self c.in-Some.process c.in-Some.is c.next.ensures.steps in
    subst (λ (n : ℕ). GoesOn c.args.builder.now (flat_map (own_meant c.args.text.now) c.args.list.items) c.put_own.new.builder (flat_map (own_meant c.args.text.now) (drop n c.args.list.items))) (sym (length-append c.subnets.yielded (c.in-Some.process ∷ [])))
    (goes_many (own_meant c.args.text.now) c.args.list.items (length c.subnets.yielded) c.args.builder.now c.subnets.builder c.subnets.invariant c.in-Some.process c.put_own.new.builder t.0 t.1 c.in_ok-put_own.ensures)

pub returns-in_err-put_own : goal.returns-in_err-put_own
returns-in_err-put_own c =
    let g = c.into_iter-process-iterator.ensures.into_iter_gives in
    let t = YieldsList-turn (YieldsList-from_vec {s = c.into_iter-process-iterator.result} c.args.list.items g.0 (g.1 ∙ c.args.list.ok.0)) c.subnets.yielded c.subnets.process-iterator c.subnets.yielded_by c.next.result c.next.new.self c.in-Some.process c.in-Some.is c.next.ensures.steps in
    let p = err_from_is_err_and c.from_residual.result c.from_residual.ensures.1 in
    rw (p.1, p.2) (stops_many (own_meant c.args.text.now) c.args.list.items (length c.subnets.yielded) c.args.builder.now c.subnets.builder c.subnets.invariant c.in-Some.process c.put_own.new.builder c.in_err-put_own.field-0.0 t.0 t.1 c.in_err-put_own.ensures)

pub returns : goal.returns
returns c =
    let g = c.into_iter-process-iterator.ensures.into_iter_gives in
    let t = YieldsList-end (YieldsList-from_vec {s = c.into_iter-process-iterator.result} c.args.list.items g.0 (g.1 ∙ c.args.list.ok.0)) c.subnets.yielded c.subnets.process-iterator c.subnets.yielded_by c.next.result c.next.new.self c.in-None.is c.next.ensures.steps in
    let all = t.1 in
    told_many (own_meant c.args.text.now) c.args.list.items (length c.subnets.yielded) c.args.builder.now c.subnets.builder c.subnets.invariant (omega (arith, all))
