use Rattle.flow_journal.proofs.Rounds.{reach-is-scheduled, stretch-goes-again}
use Rattle.flow_journal.proofs.Scheduled.{stops-from-the-start}
use Rattle.flow_journal.proofs.Stops.{stops-are-no-schedules}
use Rattle.flow_journal.proofs.runs.what_workers_reach_is_scheduled.Goals as goal

pub returns-clause-scheduled : goal.returns-clause-scheduled
returns-clause-scheduled g c = reach-is-scheduled g.K.Component.rules c.every_schedule_keeps_the_packets.ensures.prefixes c.turns_and_works_are_schedules.ensures.closed

pub returns-clause-again : goal.returns-clause-again
returns-clause-again g c = stretch-goes-again g.K.Component.rules (stops-are-no-schedules g.K.Component.rules c.schedules_lead_to_one_state.ensures) (stops-from-the-start g.K.Component.rules)
