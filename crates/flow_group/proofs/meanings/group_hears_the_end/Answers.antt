use Rattle.flow_group.proofs.GroupEnd.{group_hears}
use Rattle.flow_group.proofs.meanings.group_hears_the_end.Goals as goal

pub returns : goal.returns
returns c = group_hears
