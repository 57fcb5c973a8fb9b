use Rattle.std.proofs.Common.{ℕ, List, [], ◌∷◌, Err, length, drop, sym, ap, subst, ◌∙◌, arith, length-append}
use Rattle.std.proofs.lemmas.Result.{err_from_is_err_and}
use Rattle.std.proofs.lemmas.Iterator.Adapters.{YieldsList-from_vec}
use Rattle.std.proofs.lemmas.Iterator.Consumers.{YieldsList-turn, YieldsList-end}
use Rattle.flow_net.specs.Drafts.{Becomes}
use Rattle.flow_net.specs.Calls.{after_process}
use Rattle.flow_flat.specs.Told.{after_processes}
use Rattle.flow_expand.proofs.Naming.{names_one, names_end, names_all}
use Rattle.flow_expand.proofs.processes.put_processes.Goals as goal

pub list-preserved : goal.list-preserved
list-preserved c =
    let g = c.into_iter-name-iterator.ensures.into_iter_gives in
    let t = YieldsList-turn (YieldsList-from_vec {s = c.into_iter-name-iterator.result} c.args.list.items g.0 (g.1 ∙ c.args.list.ok.0)) c.list.yielded c.list.name-iterator c.list.yielded_by c.next.result c.next.new.self (c.in-Some.name, c.in-Some.kind) c.in-Some.is c.next.ensures.steps in
    names_one c.args.list.items (length c.list.yielded) c.args.builder.now c.list.builder c.list.invariant (c.in-Some.name, c.in-Some.kind) c.process_of.new.self t.0 t.1 (ap (after_process c.list.builder c.in-Some.name) (sym c.as_slice.ensures) ∙ c.in_ok-process_of.ensures)
    ∙ ap (λ (n : ℕ). after_processes c.process_of.new.self (drop n c.args.list.items)) (sym (length-append c.list.yielded ((c.in-Some.name, c.in-Some.kind) ∷ [])))

pub returns-in_err-process_of : goal.returns-in_err-process_of
returns-in_err-process_of c =
    let g = c.into_iter-name-iterator.ensures.into_iter_gives in
    let t = YieldsList-turn (YieldsList-from_vec {s = c.into_iter-name-iterator.result} c.args.list.items g.0 (g.1 ∙ c.args.list.ok.0)) c.list.yielded c.list.name-iterator c.list.yielded_by c.next.result c.next.new.self (c.in-Some.name, c.in-Some.kind) c.in-Some.is c.next.ensures.steps in
    let p = err_from_is_err_and c.from_residual.result c.from_residual.ensures.1 in
    rw (p.1, p.2) (names_end c.args.list.items (length c.list.yielded) c.args.builder.now c.list.builder c.list.invariant (c.in-Some.name, c.in-Some.kind) c.process_of.new.self c.in_err-process_of.field-0.0 t.0 t.1
    (subst (λ (k : List ℕ). Becomes (after_process c.list.builder c.in-Some.name k) (Err c.in_err-process_of.field-0.0) c.list.builder c.process_of.new.self) c.as_slice.ensures c.in_err-process_of.ensures))

pub returns : goal.returns
returns c =
    let g = c.into_iter-name-iterator.ensures.into_iter_gives in
    let t = YieldsList-end (YieldsList-from_vec {s = c.into_iter-name-iterator.result} c.args.list.items g.0 (g.1 ∙ c.args.list.ok.0)) c.list.yielded c.list.name-iterator c.list.yielded_by c.next.result c.next.new.self c.in-None.is c.next.ensures.steps in
    let all = t.1 in
    names_all c.args.list.items (length c.list.yielded) c.args.builder.now c.list.builder c.list.invariant (omega (arith, all))
