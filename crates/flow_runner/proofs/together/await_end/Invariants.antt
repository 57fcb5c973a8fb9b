use Rattle.std.proofs.Common.{◌≡◌}
use Rattle.flow_floor.specs.Floors.{HasSameShare, IsIdleAt, turns_of}
use Rattle.flow_runner.proofs.together.await_end.Given as goal

-- the worker holds nothing, has its share, and makes no turn
abbrev pub invariant-loop : goal.invariant-loop
invariant-loop g l = IsIdleAt l.floor l.worker × HasSameShare l.fn.worker l.worker × (turns_of l.worker ≡ turns_of l.fn.worker)
