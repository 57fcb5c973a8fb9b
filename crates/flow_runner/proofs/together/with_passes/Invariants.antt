use Rattle.std.proofs.Common.{◌≡◌, ◌+◌, ◌++◌, All, length, vec_capacity}
use Rattle.std.specs.Vec.Iter.{into_iter_items, into_iter_len}
use Rattle.flow_runner.specs.Posts.{posts_of, ArePassesAt, IsPosted, Watches}
use Rattle.flow_runner.specs.Serving.{workers_at}
use Rattle.flow_runner.proofs.together.with_passes.Given as goal

-- those that are left go behind those that have a pass, and there are as many passes as they
abbrev pub invariant-loop-worker : goal.invariant-loop-worker
invariant-loop-worker g l = record {
  items : workers_at l.servers.items ++ into_iter_items l.left ≡ l.fn.crew.items;
  long : length l.servers.items + length (into_iter_items l.left) ≡ length l.fn.crew.items;
  len : into_iter_len l.left ≡ length (into_iter_items l.left);
  rows : (length l.rows.items ≡ length (into_iter_items l.left)) × All (λ row. ArePassesAt (posts_of l.lines) row.items) l.rows.items;
  watches : (length l.watches.items ≡ length (into_iter_items l.left)) × All (Watches (posts_of l.lines)) l.watches.items;
  room : vec_capacity l.servers ≡ vec_capacity l.fn.servers;
  each : All (IsPosted (posts_of l.lines)) l.servers.items;
}

abbrev pub decreases-loop-worker : goal.decreases-loop-worker
decreases-loop-worker g l = into_iter_len l.left
