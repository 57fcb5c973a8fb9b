use Rattle.std.proofs.Common.{◌≡◌, ◌++◌, length}
use Rattle.flow_parse.specs.Spelling.{doubled}
use Rattle.flow_fill.proofs.reading.quoted.Given as goal

abbrev pub invariant-text : goal.invariant-text
invariant-text l = l.bytes ≡ doubled l.text ++ l.rest

abbrev pub decreases-text : goal.decreases-text
decreases-text l = length l.rest
