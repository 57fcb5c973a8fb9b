use Rattle.flow_floor.specs.Floors.{IsIdleAt, HasSameShare}
use Rattle.flow_runner.specs.Posts.{posts_of, FollowsAll, IsPosted}
use Rattle.flow_runner.proofs.posted.attend_on.Given as goal

-- the worker holds nothing, has its passes and its share, and follows the lines
abbrev pub invariant-loop : goal.invariant-loop
invariant-loop g l = IsIdleAt l.floor l.server.worker × IsPosted (posts_of l.lines) l.server × HasSameShare l.fn.server.worker l.server.worker × FollowsAll (posts_of l.lines) l.fn.server l.server
