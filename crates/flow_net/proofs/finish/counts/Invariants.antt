use Rattle.std.proofs.Common.{◌≡◌, map, take}
use Rattle.flow_net.specs.Finishes.{count_of}
use Rattle.flow_net.proofs.finish.counts.Given as goal

abbrev pub invariant-loop-port : goal.invariant-loop-port
invariant-loop-port l = l.counts.items ≡ map count_of (take l.port-index l.ports)
