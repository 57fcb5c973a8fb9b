use Rattle.flow_floor.specs.Floors.{IsIdleAt, HasSameShare, turns_of}
use Rattle.flow_runner.specs.Attempts.{Spends}
use Rattle.flow_runner.specs.Serving.{Follows}
use Rattle.flow_runner.proofs.service.serve_for.Given as goal

-- the worker holds nothing, has its share, follows the line, and spends
abbrev pub invariant-loop : goal.invariant-loop
invariant-loop g l = IsIdleAt l.floor l.worker × HasSameShare l.fn.worker l.worker × Follows l.line l.fn.worker l.fn.pass l.worker l.pass × Spends (turns_of l.fn.worker) l.budget (turns_of l.worker) l.stint.left
