use Rattle.std.proofs.Common.{◌≡◌, ◌≤◌, ◌++◌, ◌∷◌, [], ◌∙◌, All, sym, ap, subst, arith, length, length-append}
use Rattle.flow_limits.specs.declared.TheConstants.{WORKER_LIMIT}
use Rattle.flow_floor.proofs.Crews.{all-push}
use Rattle.flow_runner.specs.Lines.{line_room, parts_of, AreAllPasses, IsPassAt}
use Rattle.flow_runner.specs.Posts.{ArePassesAt, AreRoomFor}
use Rattle.flow_runner.proofs.Lined.{all-one}
use Rattle.flow_runner.proofs.Posts.{only, pass-push}
use Rattle.flow_runner.proofs.together.open_lines.Goals as goal

pub loop-line-preserved : goal.loop-line-preserved
loop-line-preserved c =
    let i = c.loop-line.invariant in
    let e = c.in_ok-line.ensures in
    let line = c.in_ok-line.line in
    let first = c.in-Some.first in
    let were = c.in-Some.ensures.items in
    let one = subst (λ xs. AreAllPasses line (xs ++ first ∷ [])) (only c.pop.new.self.items first (ap (λ xs. length xs) (sym were) ∙ e.count)) (subst (AreAllPasses line) were e.all) in
    let both = all-one line first one in
    let ps = c.push_reserved.ensures in
    let fs = c.push_reserved-in-loop-line.ensures in
    let posts = c.loop-line.posts.items in
    let firsts = c.loop-line.firsts.items in
    let post = c.new.result in
    record {
      count = omega (arith, i.count, ap (λ xs. length xs) ps.items, length-append posts (post ∷ []));
      room = subst (AreRoomFor c.args.processes) (sym ps.items) (all-push (λ p. line_room p.line ≡ c.args.processes) posts post i.room (ap line_room c.new.ensures ∙ e.room));
      passes = subst (λ xs. ArePassesAt xs c.push_reserved-in-loop-line.new.self.items) (sym ps.items)
          (subst (ArePassesAt (posts ++ post ∷ [])) (sym fs.items) (pass-push posts firsts post first i.passes (subst (λ l. IsPassAt l first) (sym c.new.ensures) both.0)));
      parts = subst (All (λ p. parts_of p ≡ WORKER_LIMIT)) (sym fs.items) (all-push (λ p. parts_of p ≡ WORKER_LIMIT) firsts first i.parts both.1);
      posts = subst (λ n. c.args.workers ≤ n) (sym ps.capacity) i.posts;
      firsts = subst (λ n. c.args.workers ≤ n) (sym fs.capacity) i.firsts;
    }
