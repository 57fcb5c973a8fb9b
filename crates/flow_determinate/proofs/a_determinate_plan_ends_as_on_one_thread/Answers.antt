use Rattle.flow_determinate.proofs.Standards.{standard-alone}
use Rattle.flow_determinate.proofs.a_determinate_plan_ends_as_on_one_thread.Goals as goal

pub returns : goal.returns
returns c = standard-alone c.a_determinate_plan_has_one_outcome.ensures c.every_start_has_a_round_robin.ensures.some c.round_robins_are_schedules.ensures
