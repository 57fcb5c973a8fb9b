use Rattle.flow_load.specs.Components.{contents_of}
use Rattle.flow_load.proofs.Parting.{SoFar}
use Rattle.flow_load.proofs.inputs.read_inputs.Given as goal

abbrev pub invariant-loop-process : goal.invariant-loop-process
invariant-loop-process g l = SoFar (g.F.Edge.outside l.fn.shelf) (g.F.Edge.outside l.shelf) l.fn.plan l.process (contents_of l.given.items)
