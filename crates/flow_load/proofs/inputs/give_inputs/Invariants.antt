use Rattle.flow_load.specs.Components.{contents_of}
use Rattle.flow_load.proofs.Giving.{GivenSoFar}
use Rattle.flow_load.proofs.inputs.give_inputs.Given as goal

abbrev pub invariant-loop-process : goal.invariant-loop-process
invariant-loop-process l = GivenSoFar l.fn.plan l.fn.input l.process (contents_of l.given.items)
