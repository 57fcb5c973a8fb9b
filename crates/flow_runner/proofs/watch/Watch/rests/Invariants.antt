use Rattle.std.proofs.Common.{◌≡◌}
use Rattle.flow_runner.specs.Posts.{posts_of, Watches}
use Rattle.flow_runner.proofs.watch.Watch.rests.Given as goal

-- the watch knows as many posts as there are, and is the same worker's
abbrev pub invariant-loop-worker : goal.invariant-loop-worker
invariant-loop-worker l = Watches (posts_of l.lines) l.self × (l.self.number ≡ l.fn.self.number)
