use Rattle.std.proofs.Common.{◌≡◌, ℕ, ◌<◌, Some, slice_get}
use Rattle.flow_plan.specs.declared.plan.Process.{Process}
use Rattle.flow_plan.specs.Valid.{HasSender}
use Rattle.flow_rig.proofs.starting.all_connected.Given as goal

abbrev pub invariant-loop-process : goal.invariant-loop-process
invariant-loop-process l = (p : ℕ) (x : Process) (o : ℕ) → p < l.process → slice_get l.fn.plan.processes p ≡ Some x → o < x.outputs → HasSender l.fn.plan p o
