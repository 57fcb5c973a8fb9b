use Rattle.std.specs.Prelude.{vec_len}
use Rattle.flow_machine.proofs.net.begin.discard_channels.Given as goal

abbrev pub decreases-loop-channel : goal.decreases-loop-channel
decreases-loop-channel l = vec_len l.channels
