use Rattle.std.proofs.Common.{None}
use Rattle.flow_line.proofs.Both.{hears_and_sends}
use Rattle.flow_line.proofs.queue.Queue.finish.Goals as goal

pub returns-clause-finishes : goal.returns-clause-finishes
returns-clause-finishes g c = hears_and_sends _ None _ _ _ _ _ _ c.in_default.ensures c.send.ensures.sends
