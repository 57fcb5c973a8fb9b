use Rattle.std.proofs.Common.{arith}
use Rattle.flow_net.specs.Calls.{with_sender}
use Rattle.flow_net.proofs.Places.{slice_set-updated}
use Rattle.flow_net.proofs.join.add_sender.Goals as goal

pub returns-clause-links : goal.returns-clause-links
returns-clause-links c =
    slice_set-updated (with_sender c.args.out c.args.capacity) c.args.links.now.items c.args.number c.index_mut-link.result.now _ (grind arith)
