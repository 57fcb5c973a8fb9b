use Rattle.flow_floor.specs.Floors.{IsIdleAt, HasSameShare, turns_of}
use Rattle.flow_runner.specs.Attempts.{Spends}
use Rattle.flow_runner.specs.Posts.{posts_of, FollowsAll, IsPosted}
use Rattle.flow_runner.proofs.posted.attend_for.Given as goal

-- the worker holds nothing, has its passes and its share, follows the lines, and spends
abbrev pub invariant-loop : goal.invariant-loop
invariant-loop g l = IsIdleAt l.floor l.server.worker × IsPosted (posts_of l.lines) l.server × HasSameShare l.fn.server.worker l.server.worker × FollowsAll (posts_of l.lines) l.fn.server l.server × Spends (turns_of l.fn.server.worker) l.budget (turns_of l.server.worker) l.stint.left
