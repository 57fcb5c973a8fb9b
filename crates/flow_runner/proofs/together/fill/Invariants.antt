use Rattle.flow_runner.specs.Posts.{posts_of, ArePassesAt, PushesEach}
use Rattle.flow_runner.proofs.together.fill.Given as goal

-- the passes are still the lines', and so many processes were pushed
abbrev pub invariant-loop-process : goal.invariant-loop-process
invariant-loop-process g l = ArePassesAt (posts_of l.lines) l.passes.items × PushesEach l.process l.fn.passes.items l.passes.items
