use Rattle.std.proofs.Common.{◌≡◌, ◌+◌, ◌++◌, length, take}
use Rattle.std.specs.List.{range_with_len}
use Rattle.flow_machine.proofs.body.restamp.number_last.Given as goal

abbrev pub invariant-loop-i : goal.invariant-loop-i
invariant-loop-i l = (length l.stamps ≡ length l.initial.stamps) × (take (l.kept + l.i) l.stamps ≡ take l.kept l.initial.stamps ++ range_with_len l.first l.i)
