use Rattle.std.proofs.Common.{◌≡◌, drop}
use Rattle.flow_net.specs.Finishes.{first_fault}
use Rattle.flow_net.proofs.check.check_ports.Given as goal

abbrev pub invariant-loop-port : goal.invariant-loop-port
invariant-loop-port l = first_fault l.processes (drop l.port-index l.ports) ≡ first_fault l.processes l.ports
