use Rattle.flow_played.proofs.WholeRuns.{end-alike}
use Rattle.flow_played.proofs.laws.players_end_as_the_parts_did.Goals as goal

pub returns : goal.returns
returns g c = end-alike g.K.Component.rules c.schedules_lead_to_one_state.ensures
