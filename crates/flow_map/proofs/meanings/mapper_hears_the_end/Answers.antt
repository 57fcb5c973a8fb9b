use Rattle.flow_map.proofs.MappingEnd.{mapper_hears}
use Rattle.flow_map.proofs.meanings.mapper_hears_the_end.Goals as goal

pub returns : goal.returns
returns g c = mapper_hears g.M.Maps.mapping g.met.M.Maps.laws
