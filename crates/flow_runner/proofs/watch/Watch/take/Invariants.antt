use Rattle.std.proofs.Common.{◌<◌, [], length}
use Rattle.flow_runner.specs.Posts.{posts_of, ArePassesAt, PopAll}
use Rattle.flow_runner.proofs.watch.Watch.take.Given as goal

-- the passes are still the lines', and popped nothing yet
abbrev pub invariant-loop-step : goal.invariant-loop-step
invariant-loop-step g l = ArePassesAt (posts_of l.lines) l.passes.items × (l.other < length (posts_of l.lines)) × PopAll (posts_of l.lines) l.fn.passes.items [] l.passes.items
