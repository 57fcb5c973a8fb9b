use Rattle.flow_group.proofs.Undone.{flat-undoes-group}
use Rattle.flow_group.proofs.meanings.flat_undoes_group.Goals as goal

pub returns : goal.returns
returns c = flat-undoes-group
