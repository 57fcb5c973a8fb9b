use Rattle.std.proofs.Common.{◌≡◌, map, take}
use Rattle.flow_machine.specs.Starts.{channel_begun}
use Rattle.flow_machine.proofs.net.begin.channels_of.Given as goal

abbrev pub invariant-loop-connection : goal.invariant-loop-connection
invariant-loop-connection l = l.channels.items ≡ map channel_begun (take l.connection-index l.connections)
