use Rattle.std.specs.VecDeque.{deque_len}
use Rattle.flow_machine.proofs.channel.Channel.discard.Given as goal

abbrev pub decreases-loop-packet : goal.decreases-loop-packet
decreases-loop-packet l = deque_len l.packets
