use Rattle.flow_flat.proofs.Outcomes.{told_is_said}
use Rattle.flow_flat.proofs.Tellable.{said_is_told}
use Rattle.flow_flat.proofs.laws.a_builder_gives_the_plan_of_its_text.Goals as goal

pub returns-clause-told : goal.returns-clause-told
returns-clause-told c = λ kinds text outcome table short flat. told_is_said kinds text outcome table short flat

pub returns-clause-said : goal.returns-clause-said
returns-clause-said c = λ kinds text outcome table short comes. said_is_told kinds text outcome table short comes
