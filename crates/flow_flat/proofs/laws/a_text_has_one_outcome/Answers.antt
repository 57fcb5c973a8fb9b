use Rattle.flow_flat.proofs.TextOnce.{text_once, text_some}
use Rattle.flow_flat.proofs.laws.a_text_has_one_outcome.Goals as goal

pub returns-clause-some : goal.returns-clause-some
returns-clause-some c = λ kinds text. text_some kinds text

pub returns-clause-one : goal.returns-clause-one
returns-clause-one c = λ kinds text one other p q. text_once kinds text one other p q
