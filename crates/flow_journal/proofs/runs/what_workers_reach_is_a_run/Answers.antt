use Rattle.flow_journal.proofs.Rounds.{reach-is-run}
use Rattle.flow_journal.proofs.runs.what_workers_reach_is_a_run.Goals as goal

pub returns : goal.returns
returns g c = reach-is-run g.K.Component.rules c.every_schedule_keeps_the_packets.ensures.prefixes c.turns_and_works_are_schedules.ensures.closed
