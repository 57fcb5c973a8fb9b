use Rattle.std.proofs.Common.{◌≡◌, ℕ, ◌+◌, ◌≤◌, ◌++◌, List, [], ◌∷◌, None, length, reverse, ap, sym, subst, refl, ◌∙◌, arith, length-append}
use Rattle.std.proofs.lemmas.Result.{err_from_is_err_and}
use Rattle.flow_parse.specs.declared.value.NetPart.{NetPart}
use Rattle.flow_expand.specs.declared.way.Frame.{Frame}
use Rattle.flow_expand.specs.Ways.{part_at, rest}
use Rattle.flow_expand.proofs.Walked.{Walked, starts, ends, goes, less, popped, refused_first, read_at}
use Rattle.flow_expand.proofs.instances.instances.Goals as goal

pub way-init : goal.way-init
way-init c =
    subst (λ (l : List (List ℕ × List ℕ)). Walked c.args.text.now c.args.kinds.now (record { subnets = 0; plain = 0 }) l (reverse c.push.new.self.items)) (sym c.new-list.ensures.items)
    (subst (λ (l : List Frame). Walked c.args.text.now c.args.kinds.now (record { subnets = 0; plain = 0 }) [] (reverse l))
    (sym (c.in_ok-push.ensures.items ∙ ap (λ (l : List Frame). let n : List Frame = l ++ record { subnet = None; prefix = c.new.result; next = 0 } ∷ [] in n) c.new-way.ensures.items))
    (starts c.args.text.now c.args.kinds.now c.new.result c.new.ensures))

pub way-smaller-in-Continue-branch-2 : goal.way-smaller-in-Continue-branch-2
way-smaller-in-Continue-branch-2 c =
    let fewer = less c.args.text.now c.args.kinds.now c.in-Some.frame (reverse c.pop.new.self.items) c.index-processes-frame.result c.way.counts c.put_process.new.counts c.way.list.items c.put_process.new.list.items (subst (λ (l : List Frame). Walked c.args.text.now c.args.kinds.now c.way.counts c.way.list.items l) (popped c.args.text.now c.args.kinds.now c.way.way.items c.pop.new.self.items c.in-Some.frame c.in-Some.ensures.items) c.way.invariant) (read_at c.as_slice-processes.result.now (part_at c.args.text.now c.in-Some.frame.subnet).processes c.in-Some.frame.next c.index-processes-frame.result (c.as_slice-processes.ensures ∙ ap (λ (p : NetPart). p.processes) c.part_of.ensures) c.if-frame-processes.true c.index-processes-frame.is) c.pop.new.self.items c.put_process.new.way.items refl c.in_ok-put_process.ensures in
    let a : length (rest c.args.text.now (reverse c.way.way.items)) ≡ length (rest c.args.text.now (c.in-Some.frame ∷ reverse c.pop.new.self.items)) = ap (λ (l : List Frame). length (rest c.args.text.now l)) (popped c.args.text.now c.args.kinds.now c.way.way.items c.pop.new.self.items c.in-Some.frame c.in-Some.ensures.items) in
    let b : length c.way.way.items ≡ length c.pop.new.self.items + 1 = ap length c.in-Some.ensures.items ∙ length-append c.pop.new.self.items (c.in-Some.frame ∷ []) in
    omega (arith, fewer)

pub way-preserved-in-Continue-branch-2 : goal.way-preserved-in-Continue-branch-2
way-preserved-in-Continue-branch-2 c = goes c.args.text.now c.args.kinds.now c.in-Some.frame (reverse c.pop.new.self.items) c.index-processes-frame.result c.way.counts c.put_process.new.counts c.way.list.items c.put_process.new.list.items (subst (λ (l : List Frame). Walked c.args.text.now c.args.kinds.now c.way.counts c.way.list.items l) (popped c.args.text.now c.args.kinds.now c.way.way.items c.pop.new.self.items c.in-Some.frame c.in-Some.ensures.items) c.way.invariant) (read_at c.as_slice-processes.result.now (part_at c.args.text.now c.in-Some.frame.subnet).processes c.in-Some.frame.next c.index-processes-frame.result (c.as_slice-processes.ensures ∙ ap (λ (p : NetPart). p.processes) c.part_of.ensures) c.if-frame-processes.true c.index-processes-frame.is) c.pop.new.self.items c.put_process.new.way.items refl c.in_ok-put_process.ensures

pub returns-in_err-put_process-clause-fault : goal.returns-in_err-put_process-clause-fault
returns-in_err-put_process-clause-fault c =
    let p = err_from_is_err_and c.from_residual-in_err-put_process.result c.from_residual-in_err-put_process.ensures.1 in
    rw (p.1, p.2) (refused_first c.args.text.now c.args.kinds.now c.in-Some.frame (reverse c.pop.new.self.items) c.index-processes-frame.result c.way.counts c.put_process.new.counts c.way.list.items c.put_process.new.list.items (subst (λ (l : List Frame). Walked c.args.text.now c.args.kinds.now c.way.counts c.way.list.items l) (popped c.args.text.now c.args.kinds.now c.way.way.items c.pop.new.self.items c.in-Some.frame c.in-Some.ensures.items) c.way.invariant) (read_at c.as_slice-processes.result.now (part_at c.args.text.now c.in-Some.frame.subnet).processes c.in-Some.frame.next c.index-processes-frame.result (c.as_slice-processes.ensures ∙ ap (λ (p : NetPart). p.processes) c.part_of.ensures) c.if-frame-processes.true c.index-processes-frame.is) c.pop.new.self.items c.put_process.new.way.items refl c.in_err-put_process.field-0.0 c.in_err-put_process.ensures)

pub way-preserved : goal.way-preserved
way-preserved c = ends c.args.text.now c.args.kinds.now c.way.counts c.way.list.items c.in-Some.frame (reverse c.pop.new.self.items)
    (subst (λ (l : List (List ℕ × List ℕ)). length l ≤ c.in-Some.frame.next) (c.as_slice-processes.ensures ∙ ap (λ (p : NetPart). p.processes) c.part_of.ensures) c.if-frame-processes.false)
    (subst (λ (l : List Frame). Walked c.args.text.now c.args.kinds.now c.way.counts c.way.list.items l) (popped c.args.text.now c.args.kinds.now c.way.way.items c.pop.new.self.items c.in-Some.frame c.in-Some.ensures.items) c.way.invariant)
