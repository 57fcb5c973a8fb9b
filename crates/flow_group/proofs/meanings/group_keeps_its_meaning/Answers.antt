use Rattle.flow_group.proofs.GroupStream.{groups}
use Rattle.flow_group.proofs.GroupRest.{leaves-lacking, leaves-none}
use Rattle.flow_group.proofs.meanings.group_keeps_its_meaning.Goals as goal

pub returns : goal.returns
returns c pattern rest told ended last = record {
  groups = groups pattern rest told ended last;
  leaves_others = leaves-lacking pattern rest told ended;
  silent = leaves-none pattern rest told ended;
}
