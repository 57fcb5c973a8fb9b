use Rattle.std.proofs.Common.{drop}
use Rattle.std.specs.declared.result.Result.{Result}
use Rattle.flow_net.specs.declared.fault.PlanStop.{PlanStop}
use Rattle.flow_plan.specs.Templates.{templates_in}
use Rattle.flow_net.specs.Finishes.{Checked, RowsHaveTemplates}
use Rattle.flow_net.proofs.templates.check_rows.Given as goal

abbrev pub invariant-loop-place : goal.invariant-loop-place
invariant-loop-place l = (outcome : Result (Unit {0}) PlanStop) → Checked (templates_in l.process l.place (drop l.place l.rows)) outcome → RowsHaveTemplates l.process l.rows outcome
