use Rattle.flow_played.proofs.Starting.{players-in-order, players-stand, players-start-well}
use Rattle.flow_played.proofs.laws.players_start_well.Goals as goal

pub returns-clause-each : goal.returns-clause-each
returns-clause-each g c = players-in-order

pub returns-clause-start : goal.returns-clause-start
returns-clause-start g c = players-stand

pub returns-clause-well : goal.returns-clause-well
returns-clause-well g c = players-start-well g.K.Component.rules
