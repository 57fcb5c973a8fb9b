use Rattle.std.proofs.Common.{◌≡◌, ◌+◌, [], length, ◌-◌}
use Rattle.flow_cycle.specs.Waiting.{walk}
use Rattle.flow_cycle.specs.Nets.{waits_in, AllMarked}
use Rattle.flow_cycle.proofs.find.walk.Given as goal

abbrev pub invariant-steps : goal.invariant-steps
invariant-steps g l =
    (walk (waits_in l.plan l.net) (length l.net.bodies + 1) [] l.first ≡ walk (waits_in l.plan l.net) (length l.net.bodies + 1 - l.counter) l.way.items l.process)
    × AllMarked l.marks.items l.way.items
