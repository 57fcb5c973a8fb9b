use Rattle.std.proofs.Common.{◌≡◌, ◌++◌, take}
use Rattle.std.specs.List.{flat_map}
use Rattle.flow_parse.specs.Canonical.{process_line}
use Rattle.flow_parse.proofs.printed.put_processes.Given as goal

abbrev pub invariant-processes : goal.invariant-processes
invariant-processes l = l.out.items ≡ l.fn.out.items ++ flat_map process_line (take l.process-index l.processes)
