use Rattle.flow_played.proofs.Others.{are-others}
use Rattle.flow_played.proofs.plain.components_without_own_ones_are_others.Goals as goal

pub returns : goal.returns
returns g c = are-others
