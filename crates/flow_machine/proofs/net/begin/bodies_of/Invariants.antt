use Rattle.std.proofs.Common.{◌≡◌, ℕ, drop, length, map, Some, slice_get}
use Rattle.flow_model.specs.Plans.{process_at_start}
use Rattle.flow_plan.specs.declared.plan.Process.{Process as PlanProcess}
use Rattle.flow_machine.specs.Values.{BodyValue}
use Rattle.flow_machine.specs.Starts.{StartsBody}
use Rattle.flow_machine.proofs.net.begin.bodies_of.Given as goal

abbrev pub invariant-loop-process : goal.invariant-loop-process
invariant-loop-process g l = record {
  rest : l.components.items ≡ drop l.process l.fn.components.items;
  count : length l.bodies.items ≡ l.process;
  each : (p : ℕ) (q : PlanProcess) (component : g.row.K.Denot) (b : BodyValue g.row.K.Denot) → slice_get l.plan.processes p ≡ Some q → slice_get (map g.K.Component.state_of l.fn.components.items) p ≡ Some component → slice_get l.bodies.items p ≡ Some b → StartsBody (process_at_start l.plan p q component) b;
}
