use Rattle.std.proofs.Common.{false, ◌≤◌, length}
use Rattle.flow_model.specs.Plans.{comes_from}
use Rattle.flow_machine.specs.Wires.{AreRows}
use Rattle.flow_machine.proofs.WireLemmas.{found_from}
use Rattle.flow_machine.proofs.wires.sending.Given as goal

abbrev pub invariant-loop-place : goal.invariant-loop-place
invariant-loop-place l = AreRows false l.plan.processes (found_from comes_from l.plan.connections l.place) l.rows.items × (l.place ≤ length l.plan.connections)

abbrev pub decreases-loop-place : goal.decreases-loop-place
decreases-loop-place l = l.place
