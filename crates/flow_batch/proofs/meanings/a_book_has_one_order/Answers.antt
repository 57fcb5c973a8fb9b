use Rattle.flow_batch.proofs.Uniques.{one-list, one-order}
use Rattle.flow_batch.proofs.meanings.a_book_has_one_order.Goals as goal

pub returns : goal.returns
returns c = record { entries = one-list; texts = one-order }
