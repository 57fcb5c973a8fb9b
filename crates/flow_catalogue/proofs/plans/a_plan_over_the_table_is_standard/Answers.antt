use Rattle.flow_catalogue.proofs.Standards.{over-standard}
use Rattle.flow_catalogue.proofs.plans.a_plan_over_the_table_is_standard.Goals as goal

pub returns : goal.returns
returns c = over-standard
