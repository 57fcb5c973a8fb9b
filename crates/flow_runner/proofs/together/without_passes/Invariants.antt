use Rattle.std.proofs.Common.{◌≡◌, ◌+◌, ◌++◌, length, vec_capacity}
use Rattle.std.specs.Vec.Iter.{into_iter_items, into_iter_len}
use Rattle.flow_runner.specs.Serving.{workers_at}
use Rattle.flow_runner.proofs.together.without_passes.Given as goal

-- the workers of those that are left go behind those that gave their pass away
abbrev pub invariant-loop-server : goal.invariant-loop-server
invariant-loop-server g l = record {
  items : l.crew.items ++ workers_at (into_iter_items l.left) ≡ workers_at l.fn.servers.items;
  long : length l.crew.items + length (into_iter_items l.left) ≡ length l.fn.servers.items;
  len : into_iter_len l.left ≡ length (into_iter_items l.left);
  room : vec_capacity l.crew ≡ vec_capacity l.fn.crew;
}

abbrev pub decreases-loop-server : goal.decreases-loop-server
decreases-loop-server g l = into_iter_len l.left
