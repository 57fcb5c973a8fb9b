use Rattle.std.proofs.Common.{◌≡◌, ◌++◌, drop}
use Rattle.flow_journal.specs.Files.{numbers_written}
use Rattle.flow_journal.proofs.file.put_numbers.Given as goal

abbrev pub invariant-loop-number : goal.invariant-loop-number
invariant-loop-number l = l.initial.bytes.items ++ numbers_written l.numbers ≡ l.bytes.items ++ numbers_written (drop l.number-index l.numbers)
