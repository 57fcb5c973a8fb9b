use Rattle.std.proofs.Common.{◌≡◌, map, take}
use Rattle.flow_rig.specs.Askers.{asker_of}
use Rattle.flow_rig.proofs.starting.components_of.Given as goal

abbrev pub invariant-loop-process : goal.invariant-loop-process
invariant-loop-process l = l.components.items ≡ map asker_of (take l.process-index l.processes)
