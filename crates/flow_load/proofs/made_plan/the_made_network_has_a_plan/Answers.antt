use Rattle.flow_load.proofs.MadeValue.{made_value, spelled}
use Rattle.flow_load.proofs.MadePlan.{made_plan, comes}
use Rattle.flow_load.proofs.MadeOnce.{only_outcome, reads}
use Rattle.flow_load.proofs.made_plan.the_made_network_has_a_plan.Goals as goal

pub returns-clause-plan : goal.returns-clause-plan
returns-clause-plan c = (made_value, (made_plan, spelled, comes))

pub returns-clause-unrefused : goal.returns-clause-unrefused
returns-clause-unrefused c = λ outcome is. (made_plan, only_outcome outcome is)

pub returns-clause-reads : goal.returns-clause-reads
returns-clause-reads c = λ text plan spells is. reads text plan spells is
