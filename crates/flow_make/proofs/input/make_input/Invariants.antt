use Rattle.std.proofs.Common.{◌≡◌, ◌*◌}
use Rattle.flow_make.specs.Numbers.{number_at}
use Rattle.flow_make.specs.Input.{words_in_line}
use Rattle.flow_make.specs.Lines.{text_of}
use Rattle.flow_make.proofs.Words.{first_lines}
use Rattle.flow_make.proofs.input.make_input.Given as goal

abbrev pub invariant-lines : goal.invariant-lines
invariant-lines l = record {
  put : l.out.items ≡ text_of (first_lines l.number l.counter);
  at : l.numbers.number ≡ number_at l.number (l.counter * words_in_line);
}
