use Rattle.flow_journal.proofs.Scheduled.{sees-no-more}
use Rattle.flow_journal.proofs.runs.a_schedule_sees_no_more_than_its_turns.Goals as goal

pub returns : goal.returns
returns g c = sees-no-more g.K.Component.rules
