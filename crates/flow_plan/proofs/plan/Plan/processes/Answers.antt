use Rattle.std.proofs.Common.{subst}
use Rattle.flow_plan.specs.Valid.{IsValid}
use Rattle.flow_plan.proofs.plan.Plan.processes.Goals as goal

pub returns-clause-valid : goal.returns-clause-valid
returns-clause-valid c = subst IsValid c.self.view_is c.self.invariant
