use Rattle.std.proofs.Common.{◌≡◌, length}
use Rattle.flow_runner.proofs.groups.join_all.Given as goal

-- each process has a group
abbrev pub invariant-loop-process : goal.invariant-loop-process
invariant-loop-process g l = length l.groups.items ≡ length l.net.bodies

abbrev pub invariant-loop-input : goal.invariant-loop-input
invariant-loop-input g l = length l.groups.items ≡ length l.net.bodies

abbrev pub invariant-loop-output : goal.invariant-loop-output
invariant-loop-output g l = length l.groups.items ≡ length l.net.bodies
