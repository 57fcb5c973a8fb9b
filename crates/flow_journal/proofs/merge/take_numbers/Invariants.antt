use Rattle.std.proofs.Common.{◌≡◌, ◌-◌, ◌≤◌, ◌++◌, drop, length}
use Rattle.flow_journal.specs.Journals.{numbers_under, after_numbers}
use Rattle.flow_journal.proofs.merge.take_numbers.Given as goal

abbrev pub invariant-loop-next : goal.invariant-loop-next
invariant-loop-next l = (l.next ≤ length l.levels)
    × (l.initial.seen.items ++ numbers_under l.stamp (drop l.from l.levels) ≡ l.seen.items ++ numbers_under l.stamp (drop l.next l.levels))
    × (after_numbers l.stamp (drop l.from l.levels) ≡ after_numbers l.stamp (drop l.next l.levels))

abbrev pub decreases-loop-next : goal.decreases-loop-next
decreases-loop-next l = length l.levels - l.next
