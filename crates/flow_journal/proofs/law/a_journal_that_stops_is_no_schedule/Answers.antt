use Rattle.flow_journal.proofs.Stops.{stops-are-no-schedules}
use Rattle.flow_journal.proofs.law.a_journal_that_stops_is_no_schedule.Goals as goal

pub returns : goal.returns
returns g c = stops-are-no-schedules g.K.Component.rules c.schedules_lead_to_one_state.ensures
