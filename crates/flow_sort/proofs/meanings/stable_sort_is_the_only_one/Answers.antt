use Rattle.flow_sort.proofs.Stable.{the-stable-sort}
use Rattle.flow_sort.proofs.meanings.stable_sort_is_the_only_one.Goals as goal

pub returns : goal.returns
returns c = the-stable-sort
