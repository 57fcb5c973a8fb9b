use Rattle.std.proofs.Common.{◌≡◌, drop, slice_get}
use Rattle.flow_machine.proofs.OutletLemmas.{connections}
use Rattle.flow_machine.proofs.outlets.outlet_at.Given as goal

abbrev pub invariant-loop-output : goal.invariant-loop-output
invariant-loop-output l = slice_get (connections (drop l.output-index l.outputs)) l.left ≡ slice_get (connections l.outputs) l.place
