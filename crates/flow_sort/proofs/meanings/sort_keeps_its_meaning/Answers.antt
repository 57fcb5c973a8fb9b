use Rattle.flow_sort.proofs.SortStream.{sort_meaning}
use Rattle.flow_sort.proofs.meanings.sort_keeps_its_meaning.Goals as goal

pub returns : goal.returns
returns c = sort_meaning
