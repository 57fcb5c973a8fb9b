use Rattle.std.proofs.Common.{◌≡◌, ◌++◌, take}
use Rattle.std.specs.List.{flat_map}
use Rattle.flow_report.specs.Text.{ended, left_line}
use Rattle.flow_report.proofs.lines.put_left.Given as goal

abbrev pub invariant-loop-packet : goal.invariant-loop-packet
invariant-loop-packet l = l.text.items ≡ l.initial.text.items ++ flat_map (λ x. ended (left_line l.processes l.connections x)) (take l.packet-index l.left)
