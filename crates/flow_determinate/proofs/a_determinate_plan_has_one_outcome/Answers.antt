use Rattle.flow_determinate.proofs.Standards.{standard-outcome}
use Rattle.flow_determinate.proofs.a_determinate_plan_has_one_outcome.Goals as goal

pub returns : goal.returns
returns c = standard-outcome c.standard_components_come_to_one_outcome.ensures c.quiet_schedules_end_in_one_state.ensures
