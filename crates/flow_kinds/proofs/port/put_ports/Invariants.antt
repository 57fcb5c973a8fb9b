use Rattle.std.proofs.Common.{◌≡◌, ◌++◌, take}
use Rattle.std.specs.List.{flat_map}
use Rattle.flow_kinds.specs.Page.{port_line}
use Rattle.flow_kinds.proofs.port.put_ports.Given as goal

abbrev pub invariant-loop-port : goal.invariant-loop-port
invariant-loop-port l = l.page.items ≡ l.initial.page.items ++ flat_map (port_line l.side) (take l.port-index l.ports)
