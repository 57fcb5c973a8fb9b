use Rattle.std.proofs.Common.{◌≡◌, ◌+◌, ◌≤◌, All, length, vec_capacity}
use Rattle.flow_limits.specs.declared.TheConstants.{WORKER_LIMIT}
use Rattle.flow_runner.specs.Lines.{parts_of}
use Rattle.flow_runner.specs.Posts.{ArePassesAt}
use Rattle.flow_runner.proofs.together.rows_of.Given as goal

-- each row so far has a pass of each line, and the first passes have all other parts
abbrev pub invariant-loop-worker : goal.invariant-loop-worker
invariant-loop-worker l = record {
  count : length l.rows.items + 1 ≡ l._worker;
  room : l.workers ≤ vec_capacity l.rows;
  rows : All (λ row. ArePassesAt l.posts.items row.items) l.rows.items;
  firsts : ArePassesAt l.posts.items l.firsts.items;
  parts : All (λ p. parts_of p + l._worker ≡ WORKER_LIMIT + 1) l.firsts.items;
}
