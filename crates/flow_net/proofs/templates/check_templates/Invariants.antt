use Rattle.std.proofs.Common.{drop, length}
use Rattle.std.specs.declared.result.Result.{Result}
use Rattle.flow_net.specs.declared.fault.PlanStop.{PlanStop}
use Rattle.flow_net.specs.Finishes.{HaveTemplates}
use Rattle.flow_net.proofs.templates.check_templates.Given as goal

abbrev pub invariant-loop-process : goal.invariant-loop-process
invariant-loop-process l = (outcome : Result (Unit {0}) PlanStop) → HaveTemplates (drop (length l.yielded) l.processes) (drop (length l.yielded) l.tables) outcome → HaveTemplates l.processes l.tables outcome
