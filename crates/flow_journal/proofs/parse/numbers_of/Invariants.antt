use Rattle.std.proofs.Common.{◌≡◌, ◌++◌, ◌<◌, ◌^◌, length}
use Rattle.std.specs.Prelude.{All}
use Rattle.flow_journal.specs.Files.{numbers_written}
use Rattle.flow_journal.proofs.parse.numbers_of.Given as goal

abbrev pub invariant-loop-number : goal.invariant-loop-number
invariant-loop-number l = (numbers_written l.numbers.items ++ l.rest ≡ l.bytes) × All (λ n. n < 2 ^ 16) l.numbers.items

abbrev pub decreases-loop-number : goal.decreases-loop-number
decreases-loop-number l = length l.rest
