use Rattle.std.proofs.Common.{◌≡◌, false, take}
use Rattle.std.specs.List.{list_any}
use Rattle.flow_machine.specs.Nets.{looks_of}
use Rattle.flow_report.specs.Of.{goes_on}
use Rattle.flow_report.proofs.of.some_goes_on.Given as goal

abbrev pub invariant-loop-process : goal.invariant-loop-process
invariant-loop-process g l = list_any (λ b. goes_on (looks_of l.net.channels) b.process) (take l.process l.net.bodies) ≡ false
