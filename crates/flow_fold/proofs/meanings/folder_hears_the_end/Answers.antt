use Rattle.flow_fold.proofs.FolderEnd.{folder_hears}
use Rattle.flow_fold.proofs.meanings.folder_hears_the_end.Goals as goal

pub returns : goal.returns
returns g c = folder_hears g.F.Fold.folding g.met.F.Fold.laws
