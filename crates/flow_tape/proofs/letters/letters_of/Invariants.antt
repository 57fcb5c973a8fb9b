use Rattle.std.proofs.Common.{◌≡◌, drop}
use Rattle.flow_tape.specs.Reading.{letters_at}
use Rattle.flow_tape.proofs.letters.letters_of.Given as goal

abbrev pub invariant-loop-letter : goal.invariant-loop-letter
invariant-loop-letter l = letters_at (drop l.letter-index l.letters) l.rest ≡ letters_at l.letters l.bytes
