use Rattle.flow_meanings.proofs.Every.{components-first}
use Rattle.flow_meanings.proofs.outcomes.components_of_a_plan_are_first.Goals as goal

pub returns : goal.returns
returns c = components-first
