use Rattle.flow_map.proofs.MappingStream.{mapper_meaning}
use Rattle.flow_map.proofs.meanings.mapper_keeps_its_meaning.Goals as goal

pub returns : goal.returns
returns g c = mapper_meaning g.M.Maps.mapping g.M.Maps.becoming g.met.M.Maps.laws g.met.M.Maps.becomes
