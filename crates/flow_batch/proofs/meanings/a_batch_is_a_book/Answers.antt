use Rattle.flow_batch.proofs.Collating.{batch-is-book}
use Rattle.flow_batch.proofs.meanings.a_batch_is_a_book.Goals as goal

pub returns : goal.returns
returns c = batch-is-book
