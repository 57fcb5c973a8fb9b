use Rattle.flow_meanings.proofs.Batching.{batch-means}
use Rattle.flow_meanings.proofs.a_batch_update_writes_its_book.Goals as goal

pub returns : goal.returns
returns c = batch-means
