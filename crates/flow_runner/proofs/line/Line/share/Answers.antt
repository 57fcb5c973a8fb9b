use Rattle.std.proofs.Common.{arith}
use Rattle.flow_runner.proofs.Fairs.{forks}
use Rattle.flow_runner.proofs.line.Line.share.Goals as goal

pub another-pass-requires-clause-rule : goal.another-pass-requires-clause-rule
another-pass-requires-clause-rule c = forks _ _ (omega (arith, c.requires.parts))
