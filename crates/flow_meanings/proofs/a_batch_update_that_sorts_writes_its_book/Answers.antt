use Rattle.flow_meanings.proofs.SortingBatches.{sorting-batch-means}
use Rattle.flow_meanings.proofs.a_batch_update_that_sorts_writes_its_book.Goals as goal

pub returns : goal.returns
returns c = sorting-batch-means
