use Rattle.std.proofs.Common.{◌≡◌, length}
use Rattle.flow_load.proofs.Counting.{own_below}
use Rattle.flow_load.proofs.tapes.count_own.Given as goal

abbrev pub invariant-loop-process : goal.invariant-loop-process
invariant-loop-process l = l.count ≡ length (own_below l.own l.plan l.process)
