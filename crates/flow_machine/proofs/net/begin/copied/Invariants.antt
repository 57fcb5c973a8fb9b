use Rattle.std.proofs.Common.{◌≡◌, take}
use Rattle.flow_machine.proofs.net.begin.copied.Given as goal

abbrev pub invariant-loop-connection : goal.invariant-loop-connection
invariant-loop-connection l = l.copy.items ≡ take l.connection-index l.connections
