use Rattle.flow_flat.proofs.Preorder.{all_in_order, own_flat}
use Rattle.flow_flat.proofs.laws.a_flat_text_is_in_order.Goals as goal

pub returns-clause-order : goal.returns-clause-order
returns-clause-order c = λ text. all_in_order text

pub returns-clause-own : goal.returns-clause-own
returns-clause-own c = λ text none inner. own_flat text none inner
