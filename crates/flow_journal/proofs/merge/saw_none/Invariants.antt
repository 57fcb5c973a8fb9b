use Rattle.std.proofs.Common.{◌≡◌, true, take, length}
use Rattle.std.specs.Prelude.{◌==◌}
use Rattle.std.specs.List.{list_all}
use Rattle.flow_journal.proofs.merge.saw_none.Given as goal

abbrev pub invariant-loop-process : goal.invariant-loop-process
invariant-loop-process g l = list_all (λ b. length b.levels == 0) (take l.process l.net.bodies) ≡ true
