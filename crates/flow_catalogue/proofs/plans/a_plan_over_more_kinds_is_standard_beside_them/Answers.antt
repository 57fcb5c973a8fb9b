use Rattle.flow_catalogue.proofs.Standards.{over-standard-or-more}
use Rattle.flow_catalogue.proofs.plans.a_plan_over_more_kinds_is_standard_beside_them.Goals as goal

pub returns : goal.returns
returns c = over-standard-or-more
