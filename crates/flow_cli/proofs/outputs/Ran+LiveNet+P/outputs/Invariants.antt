use Rattle.std.proofs.Common.{◌≡◌, map, take}
use Rattle.flow_load.specs.Many.{output_of}
use Rattle.flow_cli.specs.Leaves.{bytes_at}
use Rattle.flow_load.specs.Runs.{outputs_from}
use Rattle.flow_cli.proofs.outputs.Ran+LiveNet+P.outputs.Given as goal

abbrev pub invariant-loop-process : goal.invariant-loop-process
invariant-loop-process g l = map output_of l.outputs.items ≡ outputs_from (bytes_at l.self.net.bodies) 0 (take l.process l.self.plan.processes)
