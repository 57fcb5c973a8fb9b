use Rattle.std.proofs.Common.{◌≡◌, ◌++◌, ◌≤◌}
use Rattle.flow_make.specs.Numbers.{number_at}
use Rattle.flow_make.proofs.Words.{words}
use Rattle.flow_make.proofs.input.put_line.Given as goal

abbrev pub invariant-words : goal.invariant-words
invariant-words l = record {
  begun : 1 ≤ l.counter;
  put : l.out.items ≡ l.fn.out.items ++ words l.fn.numbers.number l.counter;
  at : l.numbers.number ≡ number_at l.fn.numbers.number l.counter;
}
