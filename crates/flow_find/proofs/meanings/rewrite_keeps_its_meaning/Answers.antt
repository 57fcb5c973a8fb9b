use Rattle.flow_find.proofs.RewriteStream.{rewrite_meaning}
use Rattle.flow_find.proofs.meanings.rewrite_keeps_its_meaning.Goals as goal

pub returns : goal.returns
returns c = rewrite_meaning
