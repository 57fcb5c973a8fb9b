use Rattle.std.proofs.Common.{◌≡◌, ◌+◌, ◌-◌, ◌≤◌, ◌∷◌, [], All, sym, ap, subst, arith, length, length-append}
use Rattle.flow_floor.proofs.Crews.{all-push}
use Rattle.flow_runner.specs.Lines.{parts_of}
use Rattle.flow_runner.specs.Posts.{ArePassesAt}
use Rattle.flow_runner.proofs.together.rows_of.Goals as goal

pub loop-worker-preserved : goal.loop-worker-preserved
loop-worker-preserved c =
    let i = c.loop-worker.invariant in
    let e = c.row_of.ensures in
    let posts = c.args.posts.now.items in
    let rows = c.loop-worker.rows.items in
    let items = c.push_reserved.ensures.items in
    let a = c.loop-worker-test.true in
    let w = c.requires.workers in
    let were : All (λ p. parts_of p ≡ (32 - c.loop-worker._worker) + 1) c.loop-worker.firsts.items = λ k d lt. omega (arith, i.parts k d lt, a, w.1) in
    let less : All (λ p. parts_of p ≡ 32 - c.loop-worker._worker) c.row_of.new.firsts.items = e.parts (32 - c.loop-worker._worker) were in
    record {
      count = omega (arith, i.count, ap (λ xs. length xs) items, length-append rows (c.row_of.result ∷ []));
      room = subst (λ n. c.args.workers ≤ n) (sym c.push_reserved.ensures.capacity) i.room;
      rows = subst (All (λ row. ArePassesAt posts row.items)) (sym items) (all-push (λ row. ArePassesAt posts row.items) rows c.row_of.result i.rows e.row);
      firsts = e.firsts;
      parts = λ k d lt. omega (arith, less k d lt, a, w.1);
    }

pub returns-clause-rows : goal.returns-clause-rows
returns-clause-rows c =
    let i = c.loop-worker.invariant in
    subst (All (λ row. ArePassesAt c.args.posts.now.items row.items)) (sym c.push_reserved-2.ensures.items) (all-push (λ row. ArePassesAt c.args.posts.now.items row.items) c.loop-worker.rows.items c.loop-worker.firsts i.rows i.firsts)
