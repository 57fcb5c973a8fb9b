use Rattle.std.proofs.Common.{◌≡◌, ◌++◌, take}
use Rattle.flow_net.specs.Calls.{fresh_ports}
use Rattle.flow_net.proofs.begin.add_ports.Given as goal

abbrev pub invariant-loop-place : goal.invariant-loop-place
invariant-loop-place l = l.ports.items ≡ l.fn.ports.items ++ fresh_ports l.process l.input 0 (take l.place l.specs)
