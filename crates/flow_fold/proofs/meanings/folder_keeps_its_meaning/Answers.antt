use Rattle.flow_fold.proofs.FolderStream.{folder_meaning}
use Rattle.flow_fold.proofs.meanings.folder_keeps_its_meaning.Goals as goal

pub returns : goal.returns
returns g c = folder_meaning g.F.Fold.folding g.met.F.Fold.laws g.F.Fold.folded g.met.F.Fold.tells_folded
