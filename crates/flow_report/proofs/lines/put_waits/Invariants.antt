use Rattle.std.proofs.Common.{◌≡◌, ◌++◌, take}
use Rattle.std.specs.List.{flat_map}
use Rattle.flow_report.specs.Text.{ended, waits_line}
use Rattle.flow_report.proofs.lines.put_waits.Given as goal

abbrev pub invariant-loop-wait : goal.invariant-loop-wait
invariant-loop-wait l = l.text.items ≡ l.initial.text.items ++ flat_map (λ x. ended (waits_line l.processes l.connections x)) (take l.wait-index l.waits)
