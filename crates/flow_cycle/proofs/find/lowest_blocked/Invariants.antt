use Rattle.std.proofs.Common.{◌≡◌, false, take}
use Rattle.std.specs.List.{list_any}
use Rattle.flow_cycle.specs.Nets.{is_blocked}
use Rattle.flow_cycle.proofs.find.lowest_blocked.Given as goal

abbrev pub invariant-loop-process : goal.invariant-loop-process
invariant-loop-process g l = list_any (is_blocked l.net) (take l.process l.net.bodies) ≡ false
