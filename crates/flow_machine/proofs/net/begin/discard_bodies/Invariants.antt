use Rattle.std.specs.Prelude.{vec_len}
use Rattle.flow_machine.proofs.net.begin.discard_bodies.Given as goal

abbrev pub decreases-loop-body : goal.decreases-loop-body
decreases-loop-body g l = vec_len l.bodies
