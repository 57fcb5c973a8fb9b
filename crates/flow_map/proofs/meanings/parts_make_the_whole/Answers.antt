use Rattle.flow_map.proofs.Seams.{parts_make_the_whole}
use Rattle.flow_map.proofs.meanings.parts_make_the_whole.Goals as goal

pub returns : goal.returns
returns c = parts_make_the_whole
