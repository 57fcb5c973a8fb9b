use Rattle.flow_meanings.proofs.Chaining.{one-outcome, same-files, plan-same-files}
use Rattle.flow_meanings.proofs.outcomes.a_network_without_merges_means_one_outcome.Goals as goal

pub returns-clause-one : goal.returns-clause-one
returns-clause-one c = one-outcome

pub returns-clause-files : goal.returns-clause-files
returns-clause-files c = same-files

pub returns-clause-of_a_plan : goal.returns-clause-of_a_plan
returns-clause-of_a_plan c = plan-same-files
