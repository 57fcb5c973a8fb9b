use Rattle.flow_played.proofs.Functions.{players-are-functions}
use Rattle.flow_played.proofs.laws.players_come_to_one_outcome.Goals as goal

pub returns : goal.returns
returns g c = players-are-functions g.K.Component.rules
