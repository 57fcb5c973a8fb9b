use Rattle.std.proofs.Common.{◌≡◌, map, take}
use Rattle.flow_net.specs.Finishes.{connection_of}
use Rattle.flow_net.proofs.finish.connections.Given as goal

abbrev pub invariant-loop-link : goal.invariant-loop-link
invariant-loop-link l = l.connections.items ≡ map (connection_of l.draft.ports.now) (take l.link-index l.links)
