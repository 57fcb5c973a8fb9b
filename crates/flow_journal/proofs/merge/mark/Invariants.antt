use Rattle.std.proofs.Common.{take}
use Rattle.flow_journal.specs.Journals.{Marks}
use Rattle.flow_journal.proofs.merge.mark.Given as goal

abbrev pub invariant-loop-stamp : goal.invariant-loop-stamp
invariant-loop-stamp l = Marks (take l.stamp-index l.stamps) l.process l.initial.turns l.turns
