use Rattle.std.proofs.Common.{arith, ◌∙◌, [], ◌∷◌, All, sym, ap, subst, sum_by, length, length-append}
use Rattle.flow_floor.proofs.Crews.{all-push}
use Rattle.flow_runner.specs.Lines.{IsPassAt, IsNewPass, parts_of, processes_at}
use Rattle.flow_runner.proofs.Fairs.{forks}
use Rattle.flow_runner.proofs.Lined.{sum-push}
use Rattle.flow_runner.proofs.line.Line.cut.Goals as goal

pub another-pass-requires-clause-queue : goal.another-pass-requires-clause-queue
another-pass-requires-clause-queue c = c.loop-i.invariant.first.0

pub another-pass-requires-clause-rule : goal.another-pass-requires-clause-rule
another-pass-requires-clause-rule c = let i = c.loop-i.invariant in let a = c.loop-i-test.true in let w = c.requires.workers in forks _ _ (omega (arith, i.left, a, w.1))

pub loop-i-preserved : goal.loop-i-preserved
loop-i-preserved c = let i = c.loop-i.invariant in let e = c.another-pass.ensures in let items = c.push_reserved.ensures.items in let a = c.loop-i-test.true in let w = c.requires.workers in
    let old = e.rule.0 in let new = e.rule.1 in let less = ap (λ v. v.parts) old in let one = ap (λ v. v.parts) new in let line = c.args.self.now in
    record {
      first = ((e.queue.0.0 ∙ i.first.0.0, e.queue.0.2 ∙ i.first.0.1), omega (arith, less, i.left, a, w.1), ap (λ v. v.most) old ∙ i.first.2);
      left = omega (arith, less, i.left, a, w.1);
      each = subst (All (IsPassAt line)) (sym items) (all-push (IsPassAt line) c.loop-i.passes.items _ i.each (e.queue.1, omega (arith, one), ap (λ v. v.most) new ∙ i.first.2));
      parts = omega (arith, sum-push parts_of c.loop-i.passes.items (record { pass = c.another-pass.result }), i.parts, ap (λ xs. sum_by parts_of xs) items, one);
      long = omega (arith, length-append c.loop-i.passes.items (record { pass = c.another-pass.result } ∷ []), i.long, ap (λ xs. length xs) items);
      room = c.push_reserved.ensures.capacity ∙ i.room;
      new = (ap (λ v. processes_at v.put) old ∙ i.new.0, ap (λ v. processes_at v.taken) old ∙ i.new.1);
      fresh = subst (All IsNewPass) (sym items) (all-push IsNewPass c.loop-i.passes.items (record { pass = c.another-pass.result }) i.fresh (ap (λ v. processes_at v.put) new, ap (λ v. processes_at v.taken) new));
    }

pub returns-clause-all : goal.returns-clause-all
returns-clause-all c = let i = c.loop-i.invariant in let items = c.push_reserved-2.ensures.items in let a = c.loop-i-test.false in let b = c.loop-i.auto in let w = c.requires.workers in let line = c.args.self.now in (
  subst (All (IsPassAt line)) (sym items) (all-push (IsPassAt line) c.loop-i.passes.items c.loop-i.first i.each i.first),
  omega (arith, sum-push parts_of c.loop-i.passes.items c.loop-i.first, i.parts, ap (λ xs. sum_by parts_of xs) items, i.left),
)

pub returns-clause-new : goal.returns-clause-new
returns-clause-new c = subst (All IsNewPass) (sym c.push_reserved-2.ensures.items) (all-push IsNewPass c.loop-i.passes.items c.loop-i.first c.loop-i.invariant.fresh c.loop-i.invariant.new)

pub returns-clause-count : goal.returns-clause-count
returns-clause-count c = let i = c.loop-i.invariant in let a = c.loop-i-test.false in let b = c.loop-i.auto in let w = c.requires.workers in
    omega (arith, length-append c.loop-i.passes.items (c.loop-i.first ∷ []), i.long, ap (λ xs. length xs) c.push_reserved-2.ensures.items, a, b, w.0, w.1)
