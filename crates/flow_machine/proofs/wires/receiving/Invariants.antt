use Rattle.std.proofs.Common.{true, ◌≤◌, length}
use Rattle.flow_model.specs.Plans.{leads_to}
use Rattle.flow_machine.specs.Wires.{AreRows}
use Rattle.flow_machine.proofs.WireLemmas.{found_from}
use Rattle.flow_machine.proofs.wires.receiving.Given as goal

abbrev pub invariant-loop-place : goal.invariant-loop-place
invariant-loop-place l = AreRows true l.plan.processes (found_from leads_to l.plan.connections l.place) l.rows.items × (l.place ≤ length l.plan.connections)

abbrev pub decreases-loop-place : goal.decreases-loop-place
decreases-loop-place l = l.place
