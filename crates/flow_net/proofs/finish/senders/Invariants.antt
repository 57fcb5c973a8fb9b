use Rattle.std.proofs.Common.{◌≡◌, map, take}
use Rattle.flow_net.specs.Finishes.{sender_of}
use Rattle.flow_net.proofs.finish.senders.Given as goal

abbrev pub invariant-loop-end : goal.invariant-loop-end
invariant-loop-end l = l.senders.items ≡ map (sender_of l.draft.ports.now) (take l.end-index l.ends)
