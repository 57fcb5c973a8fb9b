use Rattle.flow_parse.proofs.SomeOutcome.{some_file, one_file}
use Rattle.flow_parse.proofs.law.a_file_has_one_outcome.Goals as goal

pub returns-clause-some : goal.returns-clause-some
returns-clause-some c = λ bytes. some_file bytes

pub returns-clause-one : goal.returns-clause-one
returns-clause-one c = λ bytes one other p q. one_file bytes one other p q
