use Rattle.std.proofs.Common.{arith}
use Rattle.flow_net.specs.Calls.{with_text}
use Rattle.flow_net.proofs.Places.{slice_set-updated}
use Rattle.flow_net.proofs.give.give.Goals as goal

pub returns-clause-processes : goal.returns-clause-processes
returns-clause-processes c =
    slice_set-updated (with_text c.args.input c.args.text) c.args.processes.now.items c.args.process c.index_mut-begun.result.now _ (grind arith)
