use Rattle.flow_journal.proofs.Scheduled.{replay-is-scheduled, stops-from-the-start}
use Rattle.flow_journal.proofs.runs.a_replay_of_a_net_is_scheduled.Goals as goal

pub returns-clause-scheduled : goal.returns-clause-scheduled
returns-clause-scheduled g c = replay-is-scheduled g.K.Component.rules c.every_schedule_keeps_the_packets.ensures.prefixes

pub returns-clause-stops : goal.returns-clause-stops
returns-clause-stops g c = stops-from-the-start g.K.Component.rules
