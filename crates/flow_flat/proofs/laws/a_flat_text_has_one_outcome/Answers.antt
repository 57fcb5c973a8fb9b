use Rattle.flow_flat.proofs.Decided.{comes}
use Rattle.flow_flat.proofs.Once.{comes_once}
use Rattle.flow_flat.proofs.laws.a_flat_text_has_one_outcome.Goals as goal

pub returns-clause-some : goal.returns-clause-some
returns-clause-some c = λ kinds text. comes kinds text

pub returns-clause-one : goal.returns-clause-one
returns-clause-one c = λ kinds text one other p q. comes_once kinds text one other p q
