use Rattle.std.proofs.Common.{◌≡◌, map, take}
use Rattle.flow_machine.specs.Inlets.{input_shown}
use Rattle.flow_machine.specs.Wires.{inputs_from}
use Rattle.flow_machine.proofs.start.inlets_of.Given as goal

abbrev pub invariant-loop-input : goal.invariant-loop-input
invariant-loop-input l = map input_shown l.inlets.items ≡ inputs_from l.process.initials 0 (take l.input l.receiving)
