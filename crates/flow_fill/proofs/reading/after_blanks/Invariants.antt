use Rattle.std.proofs.Common.{◌≡◌, length}
use Rattle.flow_fill.specs.Reading.{behind_blanks}
use Rattle.flow_fill.proofs.reading.after_blanks.Given as goal

abbrev pub invariant-blanks : goal.invariant-blanks
invariant-blanks l = behind_blanks l.rest ≡ behind_blanks l.bytes

abbrev pub decreases-blanks : goal.decreases-blanks
decreases-blanks l = length l.rest
