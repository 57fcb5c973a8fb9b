use Rattle.std.proofs.Common.{◌≡◌, length}
use Rattle.flow_runner.proofs.groups.deal.Given as goal

-- each process has a number
abbrev pub invariant-loop-process : goal.invariant-loop-process
invariant-loop-process l = length l.groups.items ≡ length l.fn.groups.items
