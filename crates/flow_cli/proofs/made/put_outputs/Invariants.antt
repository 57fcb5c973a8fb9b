use Rattle.std.proofs.Common.{◌≡◌, ◌++◌, take}
use Rattle.flow_cli.specs.Makes.{output_lines_from}
use Rattle.flow_cli.specs.Leaves.{bytes_at}
use Rattle.flow_cli.proofs.made.put_outputs.Given as goal

abbrev pub invariant-loop-process : goal.invariant-loop-process
invariant-loop-process g l = l.text.items ≡ l.fn.text.items ++ output_lines_from (bytes_at l.fn.ran.net.bodies) 0 (take l.process l.fn.ran.plan.processes)
