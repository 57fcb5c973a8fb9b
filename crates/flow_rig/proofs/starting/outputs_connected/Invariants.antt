use Rattle.std.proofs.Common.{ℕ, ◌<◌}
use Rattle.flow_plan.specs.Valid.{HasSender}
use Rattle.flow_rig.proofs.starting.outputs_connected.Given as goal

abbrev pub invariant-loop-output : goal.invariant-loop-output
invariant-loop-output l = (o : ℕ) → o < l.output → HasSender l.fn.plan l.fn.process o
