use Rattle.std.proofs.Common.{◌≡◌, ◌≤◌, length, vec_capacity}
use Rattle.flow_runner.proofs.groups.first_lines.Given as goal

-- each process so far is a group of its own, and there is room for all
abbrev pub invariant-loop-process : goal.invariant-loop-process
invariant-loop-process g l = (length l.groups.items ≡ l.process) × (length l.net.bodies ≤ vec_capacity l.groups)

-- each process has a group
abbrev pub invariant-loop-round : goal.invariant-loop-round
invariant-loop-round g l = length l.groups.items ≡ length l.net.bodies
