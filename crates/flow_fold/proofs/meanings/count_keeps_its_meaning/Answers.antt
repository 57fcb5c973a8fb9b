use Rattle.flow_fold.specs.Count.{count_folding, count_folded}
use Rattle.flow_fold.specs.CountLaws.{count_laws, count_tells}
use Rattle.flow_fold.proofs.FolderStream.{folder_meaning}
use Rattle.flow_fold.proofs.meanings.count_keeps_its_meaning.Goals as goal

pub returns : goal.returns
returns c = folder_meaning count_folding count_laws count_folded count_tells
