use Rattle.std.proofs.Common.{◌≡◌, ◌++◌, replicate}
use Rattle.flow_make.proofs.input.put_word.Given as goal

abbrev pub invariant-letters : goal.invariant-letters
invariant-letters l = l.out.items ≡ l.initial.out.items ++ replicate l.counter l.letter
