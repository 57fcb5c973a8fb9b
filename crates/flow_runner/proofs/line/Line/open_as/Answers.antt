use Rattle.flow_runner.proofs.Fairs.{sizes}
use Rattle.flow_runner.proofs.line.Line.open_as.Goals as goal

pub another-requires-clause-rule : goal.another-requires-clause-rule
another-requires-clause-rule g c = sizes _ _ _ c.in_ok-queue.ensures.3
