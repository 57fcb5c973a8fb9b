use Rattle.std.proofs.Common.{◌≡◌, map}
use Rattle.flow_net.specs.Finishes.{process_of}
use Rattle.flow_net.proofs.lay.processes.Given as goal

abbrev pub invariant-begun : goal.invariant-begun
invariant-begun l = l.processes.items ≡ map (process_of l.draft.ports.now) l.yielded
