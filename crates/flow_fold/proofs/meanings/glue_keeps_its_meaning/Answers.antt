use Rattle.flow_fold.specs.Glue.{glue_folding, glue_folded}
use Rattle.flow_fold.specs.GlueLaws.{glue_laws, glue_tells}
use Rattle.flow_fold.proofs.FolderStream.{folder_meaning}
use Rattle.flow_fold.proofs.meanings.glue_keeps_its_meaning.Goals as goal

pub returns : goal.returns
returns c = folder_meaning glue_folding glue_laws glue_folded glue_tells
