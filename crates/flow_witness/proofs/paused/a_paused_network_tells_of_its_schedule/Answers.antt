use Rattle.flow_witness.proofs.Pausing.{paused-tells}
use Rattle.flow_witness.proofs.paused.a_paused_network_tells_of_its_schedule.Goals as goal

pub returns : goal.returns
returns g c = paused-tells g.K.Component.rules c.what_workers_reach_is_scheduled.ensures.scheduled c.a_report_tells_of_its_state.ensures
