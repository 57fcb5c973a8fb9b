use Rattle.std.proofs.Common.{slice_set, arith}
use Rattle.flow_net.specs.declared.draft.DraftPort.{DraftPort}
use Rattle.flow_net.proofs.Places.{slice_set-updated}
use Rattle.flow_net.proofs.join.bind.Goals as goal

pub returns : goal.returns
returns c =
    slice_set-updated (λ (port : DraftPort). record port { elements = slice_set port.elements c.args.end.element c.args.binding }) c.args.ports.now.items c.args.end.port c.index_mut-port.result.now _ (grind arith)
