use Rattle.flow_floor.specs.Floors.{IsIdleAt, HasSameShare}
use Rattle.flow_runner.specs.Serving.{Follows}
use Rattle.flow_runner.proofs.service.serve_on.Given as goal

-- the worker holds nothing, has its share, and follows the line
abbrev pub invariant-loop : goal.invariant-loop
invariant-loop g l = IsIdleAt l.floor l.worker × HasSameShare l.fn.worker l.worker × Follows l.line l.fn.worker l.fn.pass l.worker l.pass
