use Rattle.std.proofs.Common.{◌≡◌, ◌++◌, take}
use Rattle.std.specs.List.{flat_map}
use Rattle.flow_report.specs.Text.{ended, blocked_line}
use Rattle.flow_report.proofs.lines.put_blocked.Given as goal

abbrev pub invariant-loop-process : goal.invariant-loop-process
invariant-loop-process l = l.text.items ≡ l.initial.text.items ++ flat_map (λ x. ended (blocked_line x)) (take l.process-index l.blocked)
