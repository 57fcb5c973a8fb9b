use Rattle.flow_flat.proofs.Files.{file_some, file_once}
use Rattle.flow_flat.proofs.laws.a_file_has_one_network.Goals as goal

pub returns-clause-some : goal.returns-clause-some
returns-clause-some c = λ kinds bytes. file_some kinds bytes

pub returns-clause-one : goal.returns-clause-one
returns-clause-one c = λ kinds bytes one other p q. file_once kinds bytes one other p q
